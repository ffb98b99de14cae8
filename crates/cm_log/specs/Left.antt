-- What a log still gives, as a reading, if these lines come and the cutting ends so; and what is told of a line.
use Rattle.std.specs.Prelude.{◌≡◌, ℕ, ◌+◌, List, ◌++◌, Option, None, Some}
use Rattle.cm_lines.specs.Cut.{Cut}
use Rattle.cm_lines.specs.declared.limits.Past.{Past}
use Rattle.cm_log.specs.declared.log.Log.{Log}
use Rattle.cm_log.specs.declared.log.Log.TheVariants.{Script, Strace}
use Rattle.cm_log.specs.declared.script.ScriptLog.{ScriptLog}
use Rattle.cm_strace.specs.Answers.{stop_is, stop_past}
use Rattle.cm_strace.specs.declared.stage.Stage.{Stage}
use Rattle.cm_strace.specs.declared.stage.Stage.TheVariants as stage
use Rattle.model_cred.specs.World.{World}
use Rattle.model_strace.specs.Rest.{rest}
use Rattle.model_text.specs.Reading.{Placed, AtEnd, Stops, Reading, ends_at, lines_reading}

-- ---- scripts
-- what comes from the line of that number on, where the reading is at that stage: after a stop that stop, after the end nothing
abbrev pub lines_left : World → Stage → ℕ → Cut → Reading
lines_left w stage.Going number cut = lines_reading w number cut.lines cut.stop
lines_left w (stage.Stopped stop) number cut = ends_at (Stops (stop_is stop))
lines_left w stage.Finished number cut = ends_at AtEnd

-- what a script still gives
abbrev pub script_left : World → ScriptLog → Cut → Reading
script_left w log cut = lines_left w log.stage (log.lines + 1) cut

-- the stage after the last line, where the script ends, or the line that comes is past a limit
abbrev pub stage_past : Option Past → Stage
stage_past None = stage.Finished
stage_past (Some past) = stage.Stopped (stop_past past)

-- ---- all logs
-- what a log still gives; one of strace gives what its session does
abbrev pub left : World → Log → Cut → Reading
left w (Script log) cut = script_left w log cut
left w (Strace log) cut = rest w log.tracer cut

-- what the last line told, or the end
abbrev pub told_of : Log → List Placed
told_of (Script log) = log.events.items
told_of (Strace log) = log.events.items

-- these events, and then what is left, where the reading goes on
abbrev pub told_then : List Placed → Stage → Reading → Reading
told_then events stage.Going later = record { events = events ++ later.events; ending = later.ending }
told_then events (stage.Stopped stop) later = record { events = events; ending = Stops (stop_is stop) }
told_then events stage.Finished later = record { events = events; ending = AtEnd }

-- What is left after an end reads as that end again.
abbrev pub EndsAgain : Stage → Reading → Type 0
EndsAgain stage.Going later = Unit {0}
EndsAgain (stage.Stopped stop) later = later ≡ ends_at (Stops (stop_is stop))
EndsAgain stage.Finished later = later ≡ ends_at AtEnd

-- the log is a script
abbrev pub IsScript : Log → Type 0
IsScript (Script log) = Unit {0}
IsScript (Strace log) = ⊥
