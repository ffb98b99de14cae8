-- What holds of a process's own step with a call, and of the pid that a birth gives.
use Rattle.std.specs.Prelude.{◌≡◌, ◌≢◌, ◌⊎◌, ℕ, ◌<◌, IsTrue, false, Some}
use Rattle.cm_base.specs.declared.errno.Errno.TheVariants.{EAGAIN}
use Rattle.cm_base.specs.declared.res.Res.{Res}
use Rattle.cm_base.specs.declared.res.Res.TheVariants.{Err}
use Rattle.model_cred.specs.Call.{Call, Event, Fork, CloneUser}
use Rattle.model_cred.specs.Process.{Process, State, process_at, is_alive, is_pid}
use Rattle.model_cred.specs.World.{World}
use Rattle.model_run.specs.Ruling.{own, free_pid}
use Rattle.model_run.specs.Step.{Step, outcome, Wrong, names_no_space}

-- The own answer to a call of a live process that names no missing space is a step, to the own state.
unfoldable pub OwnIsStep : Type 0
OwnIsStep = (w : World) (s : State) (e : Event) (p : Process) → process_at s.processes e.pid ≡ Some p → names_no_space s.spaces e.call ≡ false
    → e.res ≡ (own w s p e.call).res → Step w s e (own w s p e.call).state

-- a live caller, its own answer, and that another was told
pub record OwnAnswer (w : World) (s : State) (e : Event) (answer : Res) : Type 0 where
  pub caller : Process
  pub lives : process_at s.processes e.pid ≡ Some caller
  pub own_answer : answer ≡ (own w s caller e.call).res
  pub another_told : e.res ≢ answer

-- An event that is no step for its result has the own answer to its call as the reason, which isn't the one that is told.
unfoldable pub WrongHasOwnAnswer : Type 0
WrongHasOwnAnswer = (w : World) (s : State) (e : Event) (answer : Res) → outcome w s e ≡ Wrong answer → OwnAnswer w s e answer

-- the least pid that isn't alive; where there is none, so that the number is no pid, all pids are alive
pub record IsLeastFree (s : State) (n : ℕ) : Type 0 where
  pub fresh : IsTrue (is_pid n) → is_alive s.processes n ≡ false
  pub least : (pid : ℕ) → IsTrue (is_pid pid) → pid < n → IsTrue (is_alive s.processes pid)
  pub none : is_pid n ≡ false → (pid : ℕ) → IsTrue (is_pid pid) → IsTrue (is_alive s.processes pid)

-- The pid that the own step of a birth gives is the least one that isn't alive.
unfoldable pub LeastFreePid : Type 0
LeastFreePid = (s : State) → IsLeastFree s (free_pid s)

-- all pids are alive
abbrev pub AllPidsLive : State → Type 0
AllPidsLive s = (pid : ℕ) → IsTrue (is_pid pid) → IsTrue (is_alive s.processes pid)

-- The rules answer EAGAIN to a birth alone, and only where all pids are alive (fork(2), "ERRORS").
unfoldable pub AgainForWantOfPids : Type 0
AgainForWantOfPids = (w : World) (s : State) (p : Process) (call : Call) → (own w s p call).res ≡ Err EAGAIN
    → ((call ≡ Fork) ⊎ (call ≡ CloneUser)) × AllPidsLive s
