-- The reading of a log: the events that it tells, each with the number of its line, and how it ends. No more of a log has a
-- part in what is answered. A form of logs is a function from what is cut from a text to readings.
use Rattle.std.specs.Prelude.{ℕ, ◌+◌, length, List, [], ◌∷◌, map, Option, Some, None}
use Rattle.cm_base.specs.declared.faults.LineFault.{LineFault}
use Rattle.cm_base.specs.declared.limited.Limited.{Limited}
use Rattle.cm_base.specs.declared.limited.Limited.TheVariants as limit
use Rattle.cm_base.specs.Limited.{limit_number}
use Rattle.model_cred.specs.Call.{Event}
use Rattle.model_cred.specs.World.{World}
use Rattle.cm_lines.specs.Cut.{Cut, cut_of}
use Rattle.cm_lines.specs.declared.limits.Past.{Past}
use Rattle.cm_lines.specs.declared.limits.Past.TheVariants as past
use Rattle.model_text.specs.Line.{Line, NoEvent, Tells, Faulty, Exceeds, script_line}

-- An event, and the number of the line that tells it.
pub record Placed : Type 0 where
  pub line : ℕ
  pub event : Event

-- What stops a reading before the log's end: the fault of the line of that number; a limit that the log exceeds.
pub data Stop : Type 0 where
  Fault : ℕ → LineFault → Stop
  Limit : Limited → Stop

-- A reading ends at the log's end, or at a stop.
pub data End : Type 0 where
  AtEnd : End
  Stops : Stop → End

-- What a log reads as: its events, each with the number of its line, and how the reading ends.
pub record Reading : Type 0 where
  pub events : List Placed
  pub ending : End

-- the events without their places
abbrev pub events_of : List Placed → List Event
events_of events = map (λ e. e.event) events

-- ---- what is cut from a text
-- the limit of a line or of a log that a line is past
abbrev pub limit_past : Past → Limited
limit_past past.Line = limit.Line
limit_past past.Whole = limit.Log

-- how a reading ends after the last of the lines that come
abbrev pub cut_ending : Option Past → End
cut_ending None = AtEnd
cut_ending (Some past) = Stops (Limit (limit_past past))

-- what comes of a log, in which a line and the whole may have so many bytes
abbrev pub log_cut : List ℕ → Cut
log_cut text = cut_of (limit_number limit.Line) (limit_number limit.Log) text

-- What comes of a text in which a line alone may have so many bytes, as one that is held whole and has a limit of its own.
abbrev pub line_cut : List ℕ → Cut
line_cut text = cut_of (limit_number limit.Line) (length text) text

-- ---- script logs
-- nothing is read but the end
abbrev pub ends_at : End → Reading
ends_at ending = record { events = []; ending = ending }

-- one event before the rest
abbrev pub reads_on : Placed → Reading → Reading
reads_on e rest = record { events = e ∷ rest.events; ending = rest.ending }

-- the reading from a line of that number on, by what the line stands for and the reading of the lines after it
abbrev pub from_line : ℕ → Line → Reading → Reading
from_line number NoEvent rest = rest
from_line number (Tells e) rest = reads_on (record { line = number; event = e }) rest
from_line number (Faulty why) rest = ends_at (Stops (Fault number why))
from_line number (Exceeds limit) rest = ends_at (Stops (Limit limit))

-- the reading of lines, the first of which has the number, and after which comes none or one that is past this limit
abbrev pub lines_reading : World → ℕ → List (List ℕ) → Option Past → Reading
lines_reading w number [] stop = ends_at (cut_ending stop)
lines_reading w number (line ∷ lines) stop = from_line number (script_line w line) (lines_reading w (number + 1) lines stop)

-- the reading of what is cut from a script log
abbrev pub script_of_cut : World → Cut → Reading
script_of_cut w cut = lines_reading w 1 cut.lines cut.stop

-- the reading of a text of script lines
abbrev pub script_reading : World → List ℕ → Reading
script_reading w text = script_of_cut w (line_cut text)
