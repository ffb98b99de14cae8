-- Processes and the state of the machine.
use Rattle.std.specs.Prelude.{ℕ, ◌==◌, ◌<◌, ◌&&◌, Bool, not, nat_lt, nat_le, is_some, length, List, [], ◌∷◌, map}
use Rattle.std.specs.Prelude.{filter, Option, Some, None, if◌then◌else◌, All}
use Rattle.cm_base.specs.Limits.{last_pid}
use Rattle.cm_filter.specs.Filters.{Filter}
use Rattle.model_cred.specs.Credential.{Credential, Keeps}
use Rattle.model_cred.specs.IdMap.{is_the}
use Rattle.model_cred.specs.Space.{Spaces, IsTree, KeepsSpace}

-- A process: its pid, its forebear (the nearest living ancestor by birth, where there is one; choice), the number of
-- the space that it is in, its credential, and its filter: what the filters that it carries exclude (seccomp(2)).
pub record Process : Type 0 where
  pub pid : ℕ
  pub forebear : Option ℕ
  pub space : ℕ
  pub cred : Credential
  pub filter : Filter

-- The state: the live processes by ascending pid, and the spaces.
pub record State : Type 0 where
  pub processes : List Process
  pub spaces : Spaces

-- the number is a pid
abbrev pub is_pid : ℕ → Bool
is_pid n = nat_le 1 n && nat_le n last_pid

-- the number, where it is a pid
abbrev pub as_pid : ℕ → Option ℕ
as_pid n = if is_pid n then Some n else None

-- the live process of that pid
abbrev pub process_at : List Process → ℕ → Option Process
process_at [] pid = None
process_at (p ∷ processes) pid = if p.pid == pid then Some p else process_at processes pid

-- the processes with another in the place of the one that has its pid
abbrev pub put_process : Process → List Process → List Process
put_process new [] = []
put_process new (p ∷ processes) = if p.pid == new.pid then new ∷ processes else p ∷ put_process new processes

-- a process of that pid is alive
abbrev pub is_alive : List Process → ℕ → Bool
is_alive processes pid = is_some (process_at processes pid)

-- processes by ascending pid and one more, in its place
abbrev pub insert_process : Process → List Process → List Process
insert_process new [] = new ∷ []
insert_process new (p ∷ processes) = if nat_lt new.pid p.pid then new ∷ p ∷ processes else p ∷ insert_process new processes

-- what the exit of one process leaves of another: its child takes over its forebear (choice)
abbrev pub after_exit : Process → Process → Process
after_exit gone p = if is_the p.forebear gone.pid then record p { forebear = gone.forebear } else p

-- the processes after the exit of one of them
abbrev pub without_process : Process → List Process → List Process
without_process gone processes = map (after_exit gone) (filter (λ p. not (p.pid == gone.pid)) processes)

-- the pids ascend, each standing once
abbrev pub Ascends : List Process → Type 0
Ascends [] = Unit {0}
Ascends (p ∷ []) = Unit {0}
Ascends (p ∷ q ∷ processes) = (p.pid < q.pid) × Ascends (q ∷ processes)

-- What every state keeps: the pids ascend, each process is in a space that stands and has what a credential keeps, the
-- spaces form a tree, and each has what a space keeps.
pub record KeepsState (s : State) : Type 0 where
  pub ascends : Ascends s.processes
  pub stands : All (λ p. p.space < length s.spaces) s.processes
  pub credentials : All (λ p. Keeps p.cred) s.processes
  pub tree : IsTree s.spaces
  pub spaces : All KeepsSpace s.spaces
