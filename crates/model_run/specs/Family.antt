-- A process and its descendants.
use Rattle.std.specs.Prelude.{◌≡◌, ℕ, zero, suc, ◌==◌, ◌||◌, Bool, false, IsTrue, length, List, [], map, filter, Option, None, Some, if◌then◌else◌}
use Rattle.model_cred.specs.Process.{Process, State, process_at, is_alive}

-- The family of a process: the process itself, if it is alive, and each live process whose forebear is of the family.
pub data Family (s : State) (root : ℕ) : ℕ → Type 0 where
  itself : IsTrue (is_alive s.processes root) → Family s root root
  child : (pid forebear : ℕ) (p : Process) → process_at s.processes pid ≡ Some p → p.forebear ≡ Some forebear
      → Family s root forebear → Family s root pid

-- the forebear of an optional process
abbrev pub forebear_in : Option Process → Option ℕ
forebear_in None = None
forebear_in (Some p) = p.forebear

-- the forebear of a live process
abbrev pub forebear_of : State → ℕ → Option ℕ
forebear_of s pid = forebear_in (process_at s.processes pid)

-- the optional pid is the root, or its chain of forebears reaches it within so many steps
abbrev pub reaches_within : ℕ → State → ℕ → Option ℕ → Bool
reaches_within steps s root None = false
reaches_within zero s root (Some pid) = pid == root
reaches_within (suc steps) s root (Some pid) = pid == root || reaches_within steps s root (forebear_of s pid)

-- the process is the root, or its chain of forebears reaches it: a chain has no more steps than there are processes
abbrev pub reaches : State → ℕ → ℕ → Bool
reaches s root pid = reaches_within (length s.processes) s root (Some pid)

-- the pids of the family, ascending; none where the root isn't alive
abbrev pub family : State → ℕ → List ℕ
family s root = if is_alive s.processes root then filter (reaches s root) (map (λ p. p.pid) s.processes) else []
