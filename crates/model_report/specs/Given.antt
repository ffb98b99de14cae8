-- What the words and the files give to be shown: the verdict on what an audit asks, in the state after an accepted log, or on
-- the last state of a drill; and what the rows of a certificate are found to be. Where none of these is asked for, or the
-- query is refused, any value will do, since the report shows none.
use Rattle.std.specs.Prelude.{◌≡◌, ◌≤◌, ℕ, length, List, Ok}
use Rattle.cm_base.specs.declared.limited.Limited.TheVariants as limit
use Rattle.cm_base.specs.Limited.{limit_number}
use Rattle.model_box.specs.Bounds.{BoxRow}
use Rattle.model_cred.specs.Process.{Process, State}
use Rattle.model_cred.specs.Right.{Right}
use Rattle.model_cred.specs.World.{World}
use Rattle.model_drill.specs.Drill.{Drilled, drilled, drill_right}
use Rattle.model_drill.specs.DrillWorld.{drill_world}
use Rattle.model_report.specs.Causes.{AsksVerdict, ReadsAs, RunWithin}
use Rattle.model_report.specs.Checked.{IsChecked}
use Rattle.model_report.specs.Command.{Command, Replay, Audit, Check, Confirm, Drill, NoForm, command_of, query}
use Rattle.model_report.specs.Judged.{Judged}
use Rattle.model_report.specs.Task.{Task, NoTask, ToJudge, ToCheck, ToConfirm}
use Rattle.model_report.specs.Told.{IsVerdictOn}
use Rattle.model_run.specs.Family.{family}
use Rattle.model_strace.specs.Logs.{log_reading}
use Rattle.model_text.specs.Reading.{AtEnd, Reading, events_of}
use Rattle.model_text.specs.WorldText.{Reads, world_text}

-- The verdict is that on what the query asks in the state: on the right, of the family, by calls that the world's filter
-- and the members' own permit. Of a certificate that reads as rows, these are found to be so.
abbrev pub StateGives : Task → World → State → Judged → Type 0
StateGives NoTask w s j = Unit {0}
StateGives (ToJudge q) w s j =
    (p : Process) (right : Right) → AsksVerdict q w s p right → IsVerdictOn w s (family s p.pid) right j.verdict
StateGives (ToCheck q text) w s j =
    (p : Process) (right : Right) (rows : List BoxRow) → AsksVerdict q w s p right → ReadsAs s text (Ok rows)
    → IsChecked w s (family s p.pid) right rows j.checked
StateGives (ToConfirm q text) w s j = Unit {0}

-- So it is after a log that reads so, where all its events are a run within the limits.
abbrev pub LogGives : Task → World → Reading → Judged → Type 0
LogGives task w reading j =
    (s : State) → reading.ending ≡ AtEnd → RunWithin w w.start (events_of reading.events) s → StateGives task w s j

-- So it is of the texts of a world, within its limit, and a log.
abbrev pub FilesGive : Task → List ℕ → List ℕ → Judged → Type 0
FilesGive task world log j =
    (w : World) → length world ≤ limit_number limit.World → world_text world ≡ Reads w → LogGives task w (log_reading w log) j

-- The verdict is that on the family of the process with the least pid, in the last state of a drill.
abbrev pub DrillGives : Drilled → Judged → Type 0
DrillGives d j = IsVerdictOn drill_world d.state (family d.state d.root) drill_right j.verdict

-- So it is of a command, over files that hold these bytes under their names.
abbrev pub CommandGives : Command → (List ℕ → List ℕ) → Judged → Type 0
CommandGives (Replay world log) bytes j = FilesGive NoTask (bytes world) (bytes log) j
CommandGives (Audit world log pid right) bytes j = FilesGive (ToJudge (query pid right)) (bytes world) (bytes log) j
CommandGives (Check world log pid right certificate) bytes j =
    FilesGive (ToCheck (query pid right) (bytes certificate)) (bytes world) (bytes log) j
CommandGives (Confirm world log pid right run) bytes j = FilesGive (ToConfirm (query pid right) (bytes run)) (bytes world) (bytes log) j
CommandGives (Drill n) bytes j = DrillGives (drilled n) j
CommandGives NoForm bytes j = Unit {0}

-- The words and the files give it.
abbrev pub Gives : List (List ℕ) → (List ℕ → List ℕ) → Judged → Type 0
Gives words bytes j = CommandGives (command_of words) bytes j
