-- The parents that a world's text declares: each is the process of an earlier row. So what holds of each process where it
-- holds of its forebear, if it has one, holds of all.
use Rattle.std.proofs.Common.{◌≡◌, ◌≢◌, ℕ, ◌==◌, true, false, List, [], Option, None, Some, Ok, IfSome, is_some, codes, sym, ap, ◌∙◌}
use Rattle.std.proofs.Common.{subst, inl, inr}
use Rattle.std.proofs.lemmas.Bool.{eqb-true, not-false, or_cases}
use Rattle.cm_base.specs.declared.faults.Table.TheVariants as table
use Rattle.cm_base.specs.declared.limited.Limited.TheVariants as limit
use Rattle.model_cred.proofs.Lookups.{alive_inserted, at_insert_other, at_insert_same}
use Rattle.model_cred.specs.Process.{Process, process_at, insert_process, is_alive}
use Rattle.model_cred.specs.World.{World}
use Rattle.model_text.proofs.Rows.{any_rows, read_ok, rows_keep}
use Rattle.model_text.proofs.Starts.{Declares, Made, declares, process_read}
use Rattle.model_text.specs.ProcessText.{has_parent, process_declared, process_row}
use Rattle.model_text.specs.WorldText.{Reads, world_text, rows_at}
use Rattle.toml.specs.Data.{Items, Members}

-- It holds of a process where it holds of its forebear, if it has one.
abbrev pub FollowsForebear : (ℕ → Type 0) → List Process → Type 0
FollowsForebear P all = (p : Process) → process_at all p.pid ≡ Some p → IfSome p.forebear P → P p.pid

-- It holds of each of these processes.
abbrev HoldsOf : (ℕ → Type 0) → List Process → Type 0
HoldsOf P processes = (pid : ℕ) → is_alive processes pid ≡ true → P pid

-- Each of these processes is the one that its pid finds among all.
abbrev AreAmong : List Process → List Process → Type 0
AreAmong all processes = (p : Process) → process_at processes p.pid ≡ Some p → process_at all p.pid ≡ Some p

-- a process that is found has another pid than one that isn't alive
other_pid : (new : Process) (before : List Process) (p : Process) → is_alive before new.pid ≡ false
    → process_at before p.pid ≡ Some p → p.pid ≢ new.pid
other_pid new before p dead found same =
    let alive : true ≡ is_alive before p.pid = sym (ap is_some found) in
    let wrong : true ≡ false = alive ∙ ap (λ (n : ℕ). is_alive before n) same ∙ dead in
    cc

forebear_holds : (P : ℕ → Type 0) (before : List Process) (forebear : Option ℕ) → HoldsOf P before
    → has_parent before forebear ≡ true → IfSome forebear P
forebear_holds P before None holds there = tt
forebear_holds P before (Some pid) holds there = holds pid there

-- it holds of one process more, whose parent is among those before it
one_more : (P : ℕ → Type 0) (all : List Process) → FollowsForebear P all → (new : Process) (before : List Process)
    → is_alive before new.pid ≡ false → has_parent before new.forebear ≡ true → (AreAmong all before → HoldsOf P before)
    → AreAmong all (insert_process new before) → HoldsOf P (insert_process new before)
one_more P all follows new before dead parent holds among pid alive =
    let earlier : HoldsOf P before
    = holds (λ p found. among p (at_insert_other new before p.pid (other_pid new before p dead found) ∙ found)) in
    let own : P new.pid
    = follows new (among new (at_insert_same new before dead)) (forebear_holds P before new.forebear earlier parent) in
    elim (or_cases (new.pid == pid) (is_alive before pid) (sym (alive_inserted new before pid) ∙ alive)) [
      | inl same ↦ subst P (eqb-true new.pid pid same) own
      | inr there ↦ earlier pid there
    ]

row_more : (P : ℕ → Type 0) (all : List Process) (names : List (List ℕ)) → FollowsForebear P all
    → (before : List Process) (row : Members) (now : List Process) → (AreAmong all before → HoldsOf P before)
    → Unit {0} → process_row names before row ≡ Ok now → AreAmong all now → HoldsOf P now
row_more P all names follows before row now holds any is =
    let parts = process_read names before row now is in
    let new : Process = process_declared names row in
    subst (λ (ps : List Process). AreAmong all ps → HoldsOf P ps) parts.1
    (one_more P all follows new before parts.0.1.1.1.1.1.0 (not-false (has_parent before new.forebear) parts.0.1.1.1.1.1.1.0) holds)

-- it holds of each process that lives at the beginning of the world of a text
pub start_from_forebears : (P : ℕ → Type 0) (bytes : List ℕ) (w : World) → world_text bytes ≡ Reads w → FollowsForebear P w.start.processes
    → (pid : ℕ) → is_alive w.start.processes pid ≡ true → P pid
start_from_forebears P bytes w is =
    let d : Declares bytes w = declares bytes w is in
    let m : Made d.top w = d.made in
    let names : List (List ℕ) = m.declared.names in
    let rows : Items = rows_at (codes "process") d.top in
    let read = read_ok table.Process limit.Processes 0 (process_row names) [] rows m.processes m.processes_read in
    subst (λ (v : World). FollowsForebear P v.start.processes → HoldsOf P v.start.processes) m.is
    (λ follows. rows_keep table.Process (process_row names) (λ ps. AreAmong m.processes ps → HoldsOf P ps) (λ row. Unit {0})
    (row_more P m.processes names follows) 1 [] rows m.processes (λ among pid none. absurd (cc)) (any_rows rows) read.1
    (λ p found. found))
