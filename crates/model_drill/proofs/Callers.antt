-- The caller that is drawn is a live process, which its pid finds.
use Rattle.std.proofs.Common.{◌≡◌, ℕ, ◌%◌, ◌<◌, length, Some, IsTrue, All}
use Rattle.std.proofs.Math.Nat.{mod-lt}
use Rattle.std.proofs.lemmas.List.Elements.{All-get_or}
use Rattle.cm_filter.specs.Filters.{no_filter}
use Rattle.model_cred.proofs.Finds.{each_found}
use Rattle.model_cred.specs.Credential.{Keeps}
use Rattle.model_cred.specs.Process.{KeepsState, Process, State, is_pid, process_at}
use Rattle.model_drill.specs.DrillWorld.{first_process}
use Rattle.model_drill.specs.Drill.{caller_drawn}

-- the pid of the process is one
abbrev pub HasPid : Process → Type 0
HasPid p = IsTrue (is_pid p.pid)

-- no filter excludes a call of the process
abbrev pub IsUnfiltered : Process → Type 0
IsUnfiltered p = p.filter ≡ no_filter

-- What is known of a caller.
pub record IsCaller (s : State) (p : Process) : Type 0 where
  pub lives : process_at s.processes p.pid ≡ Some p
  pub pid : HasPid p
  pub space : p.space < length s.spaces
  pub keeps : Keeps p.cred
  pub unfiltered : IsUnfiltered p

pub caller_is : (s : State) (draw : ℕ) → KeepsState s → All HasPid s.processes → All IsUnfiltered s.processes → 0 < length s.processes → IsCaller s (caller_drawn s draw)
caller_is s draw keeps pids unfiltered some =
    let place : ℕ = draw % length s.processes in
    let low : place < length s.processes = mod-lt draw some in
    record {
      lives = All-get_or (λ p. process_at s.processes p.pid ≡ Some p) s.processes place first_process low (each_found s.processes keeps.ascends);
      pid = All-get_or HasPid s.processes place first_process low pids;
      space = All-get_or (λ p. p.space < length s.spaces) s.processes place first_process low keeps.stands;
      keeps = All-get_or (λ p. Keeps p.cred) s.processes place first_process low keeps.credentials;
      unfiltered = All-get_or IsUnfiltered s.processes place first_process low unfiltered;
    }
