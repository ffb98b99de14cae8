-- The report: what a command answers and writes, by its words, by the bytes of the files, and by what is judged. A log has a
-- part in it by what it reads as alone. A verdict is a relation, and so is what rows are found to be; no definition
-- works them out: so they come to the report as values, and `Given` says which of them the words and the files give.
use Rattle.std.specs.Prelude.{ℕ, codes, decimal, nat_lt, length, Bool, true, false, List, [], ◌∷◌, ◌++◌, map, if◌then◌else◌}
use Rattle.cm_base.specs.declared.faults.Table.{Table}
use Rattle.cm_base.specs.declared.faults.WorldFault.{WorldFault}
use Rattle.cm_base.specs.declared.limited.Limited.TheVariants as limit
use Rattle.cm_base.specs.declared.status.Status.{Status}
use Rattle.cm_base.specs.declared.status.Status.TheVariants as status
use Rattle.cm_base.specs.Faults.{table_name, world_fault_word}
use Rattle.cm_base.specs.Limited.{limit_number}
use Rattle.model_cred.specs.World.{World}
use Rattle.model_drill.specs.Drill.{Drilled, drilled}
use Rattle.model_report.specs.Answer.{answer}
use Rattle.model_report.specs.Command.{Command, Replay, Audit, Check, Confirm, Drill, NoForm, command_of, query}
use Rattle.model_report.specs.Judged.{Judged}
use Rattle.model_report.specs.Replay.{ReportLine, Credentials, Plain, Report, says, at_line, after, silent, limit_hit, replayed, state_after}
use Rattle.model_report.specs.Task.{Task, NoTask, ToJudge, ToCheck, ToConfirm}
use Rattle.model_report.specs.Told.{Told, TellsNo, TellsYes, TellsUndecided}
use Rattle.model_strace.specs.Logs.{log_reading}
use Rattle.model_text.specs.Reading.{Reading, events_of}
use Rattle.model_text.specs.WorldText.{WorldText, Reads, Bad, Exceeds, world_text}

-- ---- the report of a log, over its reading
-- the replay of what a log reads as, from the world's state on
abbrev pub replay_of : World → Reading → Report
replay_of w reading = replayed w w.start 0 reading.events reading.ending

-- the credential lines at the start
abbrev pub start_lines : World → List ReportLine
start_lines w = map (Credentials w) w.start.processes

-- the replay where it is shown, after the lines at the start; and where it isn't
abbrev pub shown : Bool → World → Reading → Report
shown true w reading = after (start_lines w) (replay_of w reading)
shown false w reading = silent (replay_of w reading)

-- a replay and an audit show it; the check of a certificate and the confirmation of a run don't
abbrev pub shows : Task → Bool
shows NoTask = true
shows (ToJudge q) = true
shows (ToCheck q text) = false
shows (ToConfirm q text) = false

-- after a replay that is accepted comes another report
abbrev pub go_on : Status → Report → Report → Report
go_on status.Accepted replay next = after replay.lines next
go_on _ replay next = replay

-- the report of a log in a world, by what it reads as: the replay, and after an accepted log the answer to what is asked
abbrev pub log_report : Task → Judged → World → Reading → Report
log_report task j w reading =
    let replay = shown (shows task) w reading in
    go_on replay.status replay (answer task j w (state_after w w.start (events_of reading.events)))

-- ---- the report of a command, over texts
-- the line of a fault of a world, with its table and the number of its row
abbrev pub bad_world_text : Table → ℕ → WorldFault → List ℕ
bad_world_text table row why =
    codes "bad world " ++ table_name table ++ codes " " ++ decimal row ++ codes ": " ++ world_fault_word why

-- The report of a log's text by what the world's text comes to: by what the log reads as in the form that the world declares.
abbrev pub by_world : Task → Judged → WorldText → List ℕ → Report
by_world task j (Bad table row why) log = says status.BadWorld (bad_world_text table row why)
by_world task j (Exceeds l) log = limit_hit l
by_world task j (Reads w) log = log_report task j w (log_reading w log)

-- the report of a log by the world's text
abbrev pub files_report : Task → Judged → List ℕ → List ℕ → Report
files_report task j world log =
    if nat_lt (limit_number limit.World) (length world) then limit_hit limit.World
    else by_world task j (world_text world) log

-- the five forms of the command line
abbrev pub usage : Report
usage = record {
  status = status.Usage;
  lines = Plain (codes "usage: credaudit replay WORLD LOG")
      ∷ Plain (codes "usage: credaudit audit WORLD LOG PID RIGHT")
      ∷ Plain (codes "usage: credaudit check WORLD LOG PID RIGHT CERT")
      ∷ Plain (codes "usage: credaudit confirm WORLD LOG PID RIGHT RUN")
      ∷ Plain (codes "usage: credaudit drill N") ∷ [];
}

-- the word of a verdict
abbrev pub verdict_word : Told → List ℕ
verdict_word (TellsNo found) = codes "no"
verdict_word (TellsYes rows) = codes "yes"
verdict_word (TellsUndecided blame rows) = codes "undecided"

-- what a drill comes to, with the verdict on its last state
abbrev pub drill_report : Drilled → Told → Report
drill_report d verdict = record {
  status = status.Accepted;
  lines = Plain (at_line (codes "events ") d.events)
      ∷ Plain (at_line (codes "refused ") d.refused)
      ∷ Plain (at_line (codes "live ") d.live)
      ∷ Plain (at_line (codes "spaces ") d.spaces)
      ∷ Plain (codes "verdict " ++ verdict_word verdict) ∷ [];
}

-- the report of a command over files that hold these bytes under their names
abbrev pub command_report : Command → (List ℕ → List ℕ) → Judged → Report
command_report (Replay world log) bytes j = files_report NoTask j (bytes world) (bytes log)
command_report (Audit world log pid right) bytes j = files_report (ToJudge (query pid right)) j (bytes world) (bytes log)
command_report (Check world log pid right certificate) bytes j =
    files_report (ToCheck (query pid right) (bytes certificate)) j (bytes world) (bytes log)
command_report (Confirm world log pid right run) bytes j =
    files_report (ToConfirm (query pid right) (bytes run)) j (bytes world) (bytes log)
command_report (Drill n) bytes j = drill_report (drilled n) j.verdict
command_report NoForm bytes j = usage

-- the report of the words, with what is judged
abbrev pub report : List (List ℕ) → (List ℕ → List ℕ) → Judged → Report
report words bytes j = command_report (command_of words) bytes j
