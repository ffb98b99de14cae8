-- What a session of a reader of strace(1) still gives for what is cut from a log from here on, by its plain parts:
-- what is known, the held lines, how many lines came, the stop if there was one, and whether the log has ended. A session
-- is fed line by line and keeps the held lines; that one which has just begun gives the reading is a law.
use Rattle.std.specs.Prelude.{◌≡◌, ℕ, zero, suc, ◌+◌, ◌==◌, nat_lt, length, List, [], ◌∷◌, ◌++◌, Option, Some, None}
use Rattle.std.specs.Prelude.{if◌then◌else◌}
use Rattle.cm_base.specs.Limited.{limit_number}
use Rattle.cm_base.specs.declared.faults.LineFault.TheVariants as fault
use Rattle.cm_base.specs.declared.limited.Limited.TheVariants as limit
use Rattle.cm_lines.specs.Cut.{Cut, before, ends_by}
use Rattle.cm_lines.specs.declared.limits.Past.{Past}
use Rattle.model_cred.specs.World.{World}
use Rattle.model_strace.specs.After.{After, Goes, Halts, and_then}
use Rattle.model_strace.specs.Body.{PidLine, Blank, NoPid, Of, row_of}
use Rattle.model_strace.specs.Lines.{Line, Next, read_line, next_line, at_end, ended, strace_of_cut}
use Rattle.model_strace.specs.Parts.{Parts, first_parts, is_known, without_any_kept}
use Rattle.model_text.specs.Reading.{Placed, Stop, Fault, Limit, End, AtEnd, Stops, Reading, ends_at, cut_ending}

-- What a session that goes on has: what is known, the held lines in their order, and how many lines came.
pub record Work : Type 0 where
  pub parts : Parts
  pub held : List Line
  pub count : ℕ

-- A session: it goes on; or it was stopped after so many lines; or the log ended after so many.
pub data Session : Type 0 where
  Going : Work → Session
  Stopped : ℕ → Stop → Session
  Finished : ℕ → Session

-- the session of a world before any line
abbrev pub first_work : World → Work
first_work w = record { parts = first_parts w; held = []; count = 0 }

-- that session goes on
abbrev pub first_session : World → Session
first_session w = Going (first_work w)

-- how many lines came
abbrev pub lines_fed : Session → ℕ
lines_fed (Going t) = t.count
lines_fed (Stopped count stop) = count
lines_fed (Finished count) = count

-- ---- held lines
-- the lines without the first one of that pid
abbrev pub without_first : ℕ → List Line → List Line
without_first pid [] = []
without_first pid (l ∷ lines) = if l.pid == pid then lines else l ∷ without_first pid lines

-- the next line is read, and then the rest
abbrev pub then_released : World → Option Next → Work → (List ℕ → Work → After Work) → After Work
then_released w None t rest = Goes [] t
then_released w (Some x) t rest =
    and_then (read_line w x.line t.parts)
    (λ r. rest (r.born ++ x.pids) (record t { parts = r.parts; held = without_first x.line.pid t.held }))

-- the held lines of these pids are read, at most so many
abbrev pub released : World → ℕ → List ℕ → Work → After Work
released w zero pids t = Goes [] t
released w (suc left) pids t = then_released w (next_line t.parts t.held pids) t (λ pids' t'. released w left pids' t')

-- the line is read, and after it the held lines of those that it gave birth to
abbrev pub read_fed : World → Line → Work → After Work
read_fed w l t = and_then (read_line w l t.parts) (λ r. released w (length t.held) r.born (record t { parts = r.parts }))

-- the line is held, unless the held ones exceed their limit then
abbrev pub held_fed : Line → Work → After Work
held_fed l t =
    if nat_lt (limit_number limit.Held) (length (t.held ++ l ∷ [])) then Halts [] (Limit limit.Held)
    else Goes [] (record t { held = t.held ++ l ∷ [] })

-- ---- lines
-- a line that has a pid comes
abbrev pub line_fed : World → Line → Work → After Work
line_fed w l t = if is_known l.pid t.parts then read_fed w l t else held_fed l t

-- a line comes, which is counted already
abbrev pub row_fed : World → PidLine → Work → After Work
row_fed w Blank t = Goes [] t
row_fed w NoPid t = Halts [] (Fault t.count fault.Pid)
row_fed w (Of pid body) t = line_fed w (record { number = t.count; pid = pid; body = body }) t

-- a line comes
abbrev pub fed : World → List ℕ → Work → After Work
fed w line t = row_fed w (row_of line) (record t { count = t.count + 1 })

-- lines come
abbrev pub all_fed : World → List (List ℕ) → Work → After Work
all_fed w [] t = Goes [] t
all_fed w (line ∷ lines) t = and_then (fed w line t) (λ t'. all_fed w lines t')

-- the log ends
abbrev pub work_end : World → Work → Reading
work_end w t = at_end w t.held (without_any_kept t.parts)

-- the log ends, or the line that comes is past a limit, and the held lines tell nothing more
abbrev pub work_ended : World → Option Past → Work → Reading
work_ended w None t = work_end w t
work_ended w (Some past) t = ends_at (cut_ending (Some past))

-- ---- what a session gives
-- what a session still gives for what is cut from the log from here on: after a stop that stop, after the log's end nothing
abbrev pub rest : World → Session → Cut → Reading
rest w (Going t) cut = ended (work_ended w cut.stop) (all_fed w cut.lines t)
rest w (Stopped count stop) cut = ends_at (Stops stop)
rest w (Finished count) cut = ends_at AtEnd

-- ---- what a call answers
-- the events, and the stop where there is one
abbrev pub answer_of : After Work → Reading
answer_of (Goes events t) = record { events = events; ending = AtEnd }
answer_of (Halts events stop) = record { events = events; ending = Stops stop }

-- what a line that comes answers; after a stop that stop, after the log's end nothing
abbrev pub line_answer : World → Session → List ℕ → Reading
line_answer w (Going t) line = answer_of (fed w line t)
line_answer w (Stopped count stop) line = ends_at (Stops stop)
line_answer w (Finished count) line = ends_at AtEnd

-- what a session is after some lines, so many having come
abbrev pub session_of : ℕ → After Work → Session
session_of count (Goes events t) = Going t
session_of count (Halts events stop) = Stopped count stop

-- what a session is after a line
abbrev pub after_line : World → Session → List ℕ → Session
after_line w (Going t) line = session_of (t.count + 1) (fed w line t)
after_line w (Stopped count stop) line = Stopped count stop
after_line w (Finished count) line = Finished count

-- what a session is after an end that reads so
abbrev pub session_ended : ℕ → End → Session
session_ended count AtEnd = Finished count
session_ended count (Stops stop) = Stopped count stop

-- what a session is after the log's end, which answers what it still gives where no line comes
abbrev pub after_finish : World → Session → Session
after_finish w (Going t) = session_ended t.count (work_end w t).ending
after_finish w (Stopped count stop) = Stopped count stop
after_finish w (Finished count) = Finished count

-- an answer, and what follows it where it is no stop
abbrev pub answered_by : End → List Placed → Reading → Reading
answered_by AtEnd events later = record { events = events ++ later.events; ending = later.ending }
answered_by (Stops stop) events later = record { events = events; ending = Stops stop }

-- the same, of what was answered
abbrev pub answered_then : Reading → Reading → Reading
answered_then answer later = answered_by answer.ending answer.events later

-- ---- laws
-- A session that has just begun gives the reading.
unfoldable pub BeginsWithReading : Type 0
BeginsWithReading = (w : World) (cut : Cut) → rest w (first_session w) cut ≡ strace_of_cut w cut

-- What a line answers, and then what the session after it still gives, is what the session gave before.
unfoldable pub LinesGoOn : Type 0
LinesGoOn = (w : World) (session : Session) (line : List ℕ) (cut : Cut)
    → rest w session (before line cut) ≡ answered_then (line_answer w session line) (rest w (after_line w session line) cut)

-- After the log's end a session gives nothing more, whatever comes, and ends as it ended.
unfoldable pub EndsForGood : Type 0
EndsForGood = (w : World) (session : Session) (cut : Cut)
    → rest w (after_finish w session) cut ≡ ends_at (rest w session (ends_by None)).ending
