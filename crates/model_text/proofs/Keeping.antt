-- The world that a text declares keeps what a world keeps.
use Rattle.std.proofs.Common.{◌≡◌, ℕ, ◌+◌, List, length, codes, sym, subst}
use Rattle.model_cred.specs.Process.{Ascends}
use Rattle.model_cred.specs.World.{World, KeepsWorld}
use Rattle.model_text.proofs.KeepsFiles.{KeepRows, files_keep}
use Rattle.model_text.proofs.KeepsMounts.{KeepMounts, mounts_keep}
use Rattle.model_text.proofs.KeepsProcesses.{KeepProcesses, processes_keep}
use Rattle.model_text.proofs.KeepsSpaces.{KeepsDeclared, spaces_keep}
use Rattle.model_text.proofs.Starts.{Declares, Made, declares, start_ascends}
use Rattle.model_text.specs.WorldText.{Reads, world_text, rows_at}
use Rattle.toml.specs.Data.{Members}

-- the world of parts that keep what they keep
made_keeps : (top : Members) (w : World) → Made top w → Ascends w.start.processes → KeepsWorld w
made_keeps top w m ascends =
    let spaces : KeepsDeclared m.declared = spaces_keep (rows_at (codes "space") top) m.declared m.spaces_read in
    let count : length m.declared.names + 1 ≡ length m.declared.spaces = sym spaces.count in
    let mounts : KeepMounts (length m.declared.spaces) m.mounts
    = subst (λ (n : ℕ). KeepMounts n m.mounts) count
    (mounts_keep m.declared.names (rows_at (codes "mount") top) m.mounts m.mounts_read) in
    let rows : KeepRows (length m.mounts) m.files
    = files_keep m.mounts (rows_at (codes "file") top) m.files mounts.some m.files_read in
    let processes : KeepProcesses (length m.declared.spaces) m.processes
    = subst (λ (n : ℕ). KeepProcesses n m.processes) count
    (processes_keep m.declared.names (rows_at (codes "process") top) m.processes m.processes_read) in
    subst KeepsWorld m.is (record {
      start = record {
        ascends = subst (λ (v : World). Ascends v.start.processes) (sym m.is) ascends;
        stands = processes.stand;
        credentials = processes.credentials;
        tree = spaces.tree;
        spaces = spaces.each;
      };
      files = record { mounts = mounts.each; rows = rows.each; mounted = rows.mounted; interpreters = rows.interpreters };
      mounts = mounts.stand;
    })

pub start_keeps : (bytes : List ℕ) (w : World) → world_text bytes ≡ Reads w → KeepsWorld w
start_keeps bytes w is =
    let d : Declares bytes w = declares bytes w is in
    made_keeps d.top w d.made (start_ascends bytes w is)
