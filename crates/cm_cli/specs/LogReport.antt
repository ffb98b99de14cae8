-- The report of a log, and what comes after its replay.
use Rattle.std.specs.Prelude.{◌≡◌, ℕ, List, Option}
use Rattle.cm_base.specs.declared.status.Status.{Status}
pub use Rattle.cm_cli.specs.Put.{IsPut}
use Rattle.cm_declared.specs.World.{world_of}
use Rattle.cm_declared.specs.declared.world.World.{World}
use Rattle.cm_io.specs.Sink.{then_written}
use Rattle.cm_report.specs.Sent.{IsFront}
use Rattle.cm_report.specs.Telling.{IsOfReport}
use Rattle.model_report.specs.Given.{LogGives}
use Rattle.model_report.specs.Judged.{Judged}
use Rattle.model_report.specs.Replay.{Report, text_of}
use Rattle.model_report.specs.Report as whole
use Rattle.model_report.specs.Task.{Task}
use Rattle.model_strace.specs.Logs.{log_reading}

-- the report of a log in the world, with what is asked after it
abbrev pub log_report : Task → Judged → World → List ℕ → Report
log_report task j w log = whole.log_report task j (world_of w) (log_reading (world_of w) log)

-- the log in the world gives what is judged
abbrev pub WorldGives : Task → World → List ℕ → Judged → Type 0
WorldGives task w log j = LogGives task (world_of w) (log_reading (world_of w) log) j

-- With the status of a report all of its text is written, with any other a front of it.
pub record WritesReport (r : Report) (answer : Status) (written written' : Option (List ℕ)) : Type 0 where
  pub whole : IsOfReport answer → written' ≡ then_written written (text_of r.lines)
  pub front : IsFront written written' (text_of r.lines)

-- The answer tells the report, if it is that of a report at all.
pub record TellsLog (r : Report) (answer : Status) (written written' : Option (List ℕ)) : Type 0 where
  pub status : IsOfReport answer → answer ≡ r.status
  pub text : WritesReport r answer written written'
