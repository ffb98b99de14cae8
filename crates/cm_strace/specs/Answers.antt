-- What a session answers, in the words of the definitions.
use Rattle.std.specs.Prelude.{List}
use Rattle.cm_base.specs.declared.limited.Limited.TheVariants as limit
use Rattle.cm_lines.specs.declared.limits.Past.{Past}
use Rattle.cm_lines.specs.declared.limits.Past.TheVariants as past
use Rattle.cm_strace.specs.declared.stage.Stop.{Stop}
use Rattle.cm_strace.specs.declared.stage.Stop.TheVariants as code
use Rattle.cm_strace.specs.declared.stage.Stage.{Stage}
use Rattle.cm_strace.specs.declared.stage.Stage.TheVariants as stage
use Rattle.model_text.specs.Reading as reading

-- the stop of the definitions
abbrev pub stop_is : Stop → reading.Stop
stop_is (code.Fault number why) = reading.Fault number why
stop_is (code.Limit limit) = reading.Limit limit

-- the stop at a line that is past that limit
abbrev pub stop_past : Past → Stop
stop_past past.Line = code.Limit limit.Line
stop_past past.Whole = code.Limit limit.Log

-- how what was read ends, at that stage: where it goes on nothing stops it
abbrev pub ending_at : Stage → reading.End
ending_at stage.Going = reading.AtEnd
ending_at (stage.Stopped stop) = reading.Stops (stop_is stop)
ending_at stage.Finished = reading.AtEnd

-- these events, and the stop after them where there is one
abbrev pub reading_is : List reading.Placed → Stage → reading.Reading
reading_is events at = record { events = events; ending = ending_at at }
