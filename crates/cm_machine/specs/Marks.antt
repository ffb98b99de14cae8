-- Marks of processes: whether a process is known to be of the family of a root, by its place.
use Rattle.std.specs.Prelude.{◌≡◌, ◌≢◌, ℕ, ◌<◌, Bool, true, false, length, List, map, filter, Option, None, Some, slice_index_or}
use Rattle.cm_state.specs.Places.{pid_at}
use Rattle.model_cred.specs.Process.{State, is_alive}
use Rattle.model_run.specs.Family.{forebear_of, reaches}

-- the process at that place is the root, or its chain of forebears reaches it
abbrev pub reaches_at : State → ℕ → ℕ → Bool
reaches_at s root at = reaches s root (pid_at s.processes at)

-- the pids of the root and of those whose chain of forebears reaches it
abbrev pub reaching : State → ℕ → List ℕ
reaching s root = filter (reaches s root) (map (λ p. p.pid) s.processes)

-- the forebear of the process at the first place stands at the second
abbrev pub IsForebearAt : State → ℕ → ℕ → Type 0
IsForebearAt s at up = forebear_of s (pid_at s.processes at) ≡ Some (pid_at s.processes up)

-- the process at that place has no forebear that is alive
abbrev pub HasNoForebearAt : State → ℕ → Type 0
HasNoForebearAt s at = (f : ℕ) → forebear_of s (pid_at s.processes at) ≡ Some f → is_alive s.processes f ≡ false

-- a mark of the process of that pid is right: a process without one isn't the root
abbrev pub HoldsMark : State → ℕ → ℕ → Option Bool → Type 0
HoldsMark s root pid None = pid ≢ root
HoldsMark s root pid (Some reached) = reaches s root pid ≡ reached

-- There is a mark for each process, each is right, and the root is alive.
pub record AreMarks (s : State) (root : ℕ) (marks : List (Option Bool)) : Type 0 where
  pub alive : is_alive s.processes root ≡ true
  pub count : length marks ≡ length s.processes
  pub each : (k : ℕ) → k < length s.processes → HoldsMark s root (pid_at s.processes k) (slice_index_or marks k None)
