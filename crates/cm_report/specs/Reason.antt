-- Why an event is impossible, as text.
use Rattle.std.specs.Prelude.{ℕ, List, []}
use Rattle.cm_machine.specs.declared.error.StepError.{StepError}
use Rattle.cm_machine.specs.declared.error.StepError.TheVariants as error
use Rattle.model_run.specs.Step.{NoProcess, NoSpace, PidInUse, Wrong}
use Rattle.model_report.specs.Replay.{reason}

-- the machine's reason why an event is impossible, as text (out of memory is none)
abbrev pub reason_of : StepError → List ℕ
reason_of error.NoProcess = reason NoProcess
reason_of error.NoSpace = reason NoSpace
reason_of error.PidInUse = reason PidInUse
reason_of (error.Wrong res) = reason (Wrong res)
reason_of error.NoMemory = []
