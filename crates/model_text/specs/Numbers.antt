-- What the reading of a script log says of its lines: of which one each number is, and that no event is left out.
use Rattle.std.specs.Prelude.{◌≡◌, ◌≤◌, ◌⊎◌, ℕ, ◌+◌, length, List, [], ◌∷◌, ◌++◌, Option, Some, None, All, filter_map}
use Rattle.cm_base.specs.declared.faults.LineFault.{LineFault}
use Rattle.cm_base.specs.declared.limited.Limited.{Limited}
use Rattle.model_cred.specs.Call.{Event}
use Rattle.model_cred.specs.World.{World}
use Rattle.cm_lines.specs.Cut.{Cut}
use Rattle.cm_lines.specs.declared.limits.Past.{Past}
use Rattle.model_text.specs.Line.{Line, NoEvent, Tells, Faulty, Exceeds, script_line}
use Rattle.model_text.specs.Reading.{Placed, Fault, Limit, AtEnd, Stops, Reading, events_of, limit_past, script_of_cut}

-- Among lines, the first of which has the number `from`, the line of that number stands for this.
pub record StandsFor (w : World) (from : ℕ) (lines : List (List ℕ)) (number : ℕ) (meaning : Line) : Type 0 where
  pub before : List (List ℕ)
  pub line : List ℕ
  pub later : List (List ℕ)
  pub cut : lines ≡ before ++ line ∷ later
  pub place : number ≡ from + length before
  pub means : script_line w line ≡ meaning

-- the numbers of the events ascend, from this one on
abbrev pub Ascend : ℕ → List Placed → Type 0
Ascend from [] = Unit {0}
Ascend from (e ∷ events) = (from ≤ e.line) × Ascend (e.line + 1) events

-- the line is whole: it tells an event or none
abbrev pub IsWhole : World → List ℕ → Type 0
IsWhole w line = (script_line w line ≡ NoEvent) ⊎ ((e : Event) × (script_line w line ≡ Tells e))

-- the event that a line tells, where it tells one
abbrev pub told_event : Line → Option Event
told_event (Tells e) = Some e
told_event _ = None

-- the events that lines tell, in their order
abbrev pub told_events : World → List (List ℕ) → List Event
told_events w lines = filter_map (λ line. told_event (script_line w line)) lines

-- Each of the lines is whole, and these are their events.
pub record AreTold (w : World) (lines : List (List ℕ)) (events : List Placed) : Type 0 where
  pub whole : All (IsWhole w) lines
  pub told : events_of events ≡ told_events w lines

-- A line with that number stands for this, and the events are those of the lines before it, which are whole.
pub record BreaksAt (w : World) (from : ℕ) (lines : List (List ℕ)) (events : List Placed) (number : ℕ) (meaning : Line) : Type 0 where
  pub stands : StandsFor w from lines number meaning
  pub before : AreTold w stands.before events

-- After the last of the lines comes one that is past the limit, and the events are those of all lines, which are whole.
pub record IsCutShort (w : World) (cut : Cut) (events : List Placed) (l : Limited) : Type 0 where
  pub past : Past
  pub stop : cut.stop ≡ Some past
  pub is : l ≡ limit_past past
  pub told : AreTold w cut.lines events

-- Each event is told by the line of its number, and the numbers ascend. At the log's end the events are those of all lines,
-- after which comes none; at a fault those of the lines before the one of that number, which has the fault; at a limit those
-- of the lines before one that exceeds it, or of all lines, where the one after them is past it.
pub record ReadsLines (w : World) (from : ℕ) (cut : Cut) (reading : Reading) : Type 0 where
  pub events : All (λ e. StandsFor w from cut.lines e.line (Tells e.event)) reading.events
  pub order : Ascend from reading.events
  pub end : reading.ending ≡ AtEnd → (cut.stop ≡ None) × AreTold w cut.lines reading.events
  pub fault : (number : ℕ) (why : LineFault) → reading.ending ≡ Stops (Fault number why)
      → BreaksAt w from cut.lines reading.events number (Faulty why)
  pub limit : (l : Limited) → reading.ending ≡ Stops (Limit l)
      → ((number : ℕ) × BreaksAt w from cut.lines reading.events number (Exceeds l)) ⊎ IsCutShort w cut reading.events l

-- So it is with all that is cut from a script log, the first line of which has the number 1.
unfoldable pub NumbersAreLines : Type 0
NumbersAreLines = (w : World) (cut : Cut) → ReadsLines w 1 cut (script_of_cut w cut)
