-- What the end of a step shows of the event, and what an own step is.
use Rattle.std.specs.Prelude.{◌≡◌, ℕ, Bool, true, false, Result, Ok, Some}
use Rattle.std.specs.declared.result.Result.TheVariants.{Err}
use Rattle.cm_base.specs.declared.res.Res.{Res}
use Rattle.cm_machine.specs.declared.error.StepError.{StepError}
use Rattle.cm_machine.specs.declared.error.StepError.TheVariants as error
use Rattle.model_cred.specs.Call.{Call, SetGroups, Fork, CloneUser, Unshare, WriteUidMap, WriteGidMap}
use Rattle.model_cred.specs.Process.{Process, State, process_at}
use Rattle.model_cred.specs.World.{World}
use Rattle.model_run.specs.Ruling.{own}
use Rattle.model_run.specs.Step.{Outcome, Goes, NoProcess, NoSpace, PidInUse, Wrong, names_no_space}

-- what becomes of the event: a step to the state that is left, or the refusal
abbrev pub Becomes : {T : Type 0} → Result T StepError → State → Outcome → Type 0
Becomes (Ok _) after outcome = outcome ≡ Goes after
Becomes (Err error.NoProcess) after outcome = outcome ≡ NoProcess
Becomes (Err error.NoSpace) after outcome = outcome ≡ NoSpace
Becomes (Err error.PidInUse) after outcome = outcome ≡ PidInUse
Becomes (Err (error.Wrong given)) after outcome = outcome ≡ Wrong given
Becomes (Err error.NoMemory) after outcome = Unit {0}

-- The own step of a process: the process of that pid is alive, the call names no missing space, and its own step with the
-- call answers this and leads to that state.
pub record IsOwn (w : World) (s : State) (pid : ℕ) (call : Call) (answer : Res) (after : State) : Type 0 where
  pub caller : Process
  pub lives : process_at s.processes pid ≡ Some caller
  pub stands : names_no_space s.spaces call ≡ false
  pub answers : answer ≡ (own w s caller call).res
  pub leads : after ≡ (own w s caller call).state

-- The call can take memory: it carries a list, or makes a process or a space. No other call takes any.
abbrev pub takes_memory : Call → Bool
takes_memory (SetGroups ids) = true
takes_memory Fork = true
takes_memory CloneUser = true
takes_memory Unshare = true
takes_memory (WriteUidMap n given) = true
takes_memory (WriteGidMap n given) = true
takes_memory _ = false

-- the reason why a call isn't answered: no such process, no such space, or out of memory
abbrev pub IsNoAnswer : StepError → Type 0
IsNoAnswer error.NoProcess = Unit {0}
IsNoAnswer error.NoSpace = Unit {0}
IsNoAnswer error.NoMemory = Unit {0}
IsNoAnswer _ = ⊥
