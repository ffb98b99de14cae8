-- How many events a session can still tell: no more than it holds lines and others come, so a log tells no more events than it
-- has lines; and how many lines and user namespaces it counts.
use Rattle.std.specs.Prelude.{◌≡◌, ◌≤◌, ℕ, ◌+◌, length, List, None}
use Rattle.cm_base.specs.Limited.{limit_number}
use Rattle.cm_base.specs.declared.limited.Limited.TheVariants as limit
use Rattle.cm_lines.specs.Cut.{Cut, ends_by}
use Rattle.model_cred.specs.Made.{spaces_made}
use Rattle.model_cred.specs.World.{World}
use Rattle.model_strace.specs.Rest.{Session, Going, Stopped, Finished, lines_fed, line_answer, after_line, after_finish, rest}
use Rattle.model_text.specs.Reading.{events_of}

-- how many lines a session holds
abbrev pub held_count : Session → ℕ
held_count (Going t) = length t.held
held_count (Stopped count stop) = 0
held_count (Finished count) = 0

-- how many user namespaces a session counts while it goes on: those that there are, and one for each line that it holds, which
-- may make one
abbrev pub spaces_counted : Session → ℕ
spaces_counted (Going t) = t.parts.spaces + length t.held
spaces_counted (Stopped count stop) = 0
spaces_counted (Finished count) = 0

-- how many user namespaces a session knows of while it goes on
abbrev pub spaces_known : Session → ℕ
spaces_known (Going t) = t.parts.spaces
spaces_known (Stopped count stop) = 0
spaces_known (Finished count) = 0

-- ---- events
-- A session tells no more events than it holds lines and others come.
unfoldable pub EventsWithinLines : Type 0
EventsWithinLines = (w : World) (session : Session) (cut : Cut)
    → length (rest w session cut).events ≤ held_count session + length cut.lines

-- What a line tells, and what is held after it, is no more than was held, and that line.
unfoldable pub EventsOfLine : Type 0
EventsOfLine = (w : World) (session : Session) (line : List ℕ)
    → length (line_answer w session line).events + held_count (after_line w session line) ≤ held_count session + 1

-- The log's end tells no more events than lines are held.
unfoldable pub EventsOfEnd : Type 0
EventsOfEnd = (w : World) (session : Session) → length (rest w session (ends_by None)).events ≤ held_count session

-- ---- what is counted
-- No line makes the held ones more than their limit.
unfoldable pub HeldIsLimited : Type 0
HeldIsLimited = (w : World) (session : Session) (line : List ℕ)
    → held_count session ≤ limit_number limit.Held → held_count (after_line w session line) ≤ limit_number limit.Held

-- A session learns of no more user namespaces in a line than the events that the line tells make.
unfoldable pub SpacesByEvents : Type 0
SpacesByEvents = (w : World) (session : Session) (line : List ℕ)
    → spaces_known (after_line w session line) ≤ spaces_known session + spaces_made (events_of (line_answer w session line).events)

-- Each line is counted once while the session goes on, and after that none is.
unfoldable pub LinesAreCounted : Type 0
LinesAreCounted = (w : World) (session : Session) (line : List ℕ) → lines_fed (after_line w session line) ≤ lines_fed session + 1

-- The log's end is no line.
unfoldable pub EndsAreNotCounted : Type 0
EndsAreNotCounted = (w : World) (session : Session) → lines_fed (after_finish w session) ≡ lines_fed session
