-- The lines of a report, and the replay: what placed events, one after another from a state on, come to as lines of a report.
-- Which form of log they were read from has no part in it.
use Rattle.std.specs.Prelude.{ℕ, codes, decimal, ◌+◌, List, [], ◌∷◌, ◌++◌, Option, Some, None, flat_map}
use Rattle.cm_base.specs.declared.faults.LineFault.{LineFault}
use Rattle.cm_base.specs.declared.faults.LineFault.TheVariants as fault
use Rattle.cm_base.specs.declared.limited.Limited.{Limited}
use Rattle.cm_base.specs.declared.status.Status.{Status}
use Rattle.cm_base.specs.declared.status.Status.TheVariants as status
use Rattle.cm_base.specs.declared.res.Res.{Res}
use Rattle.cm_base.specs.declared.res.Res.TheVariants.{Child}
use Rattle.cm_base.specs.Faults.{line_fault_word}
use Rattle.cm_base.specs.Limited.{limit_name, limit_number}
use Rattle.model_cred.specs.Call.{Event}
use Rattle.model_cred.specs.Process.{Process, State, process_at}
use Rattle.model_cred.specs.World.{World}
use Rattle.model_run.specs.Step.{Outcome, Goes, NoProcess, NoSpace, PidInUse, Wrong, outcome}
pub use Rattle.model_run.specs.Within.{exceeded, IsWithin}
use Rattle.model_text.specs.Print.{credential_line, event_line, res_text}
use Rattle.model_text.specs.Reading.{Placed, Stop, Fault, Limit, End, AtEnd, Stops}

-- A line of the report: the credentials of a process; an event with the number of its line; any other text. The world
-- has the names of spaces and the paths of files, as the line writes them.
pub data ReportLine : Type 0 where
  Credentials : World → Process → ReportLine
  Told : World → Placed → ReportLine
  Plain : List ℕ → ReportLine

-- A report: its status, and its lines.
pub record Report : Type 0 where
  pub status : Status
  pub lines : List ReportLine

-- the text of a line
abbrev pub line_text : ReportLine → List ℕ
line_text (Credentials w p) = credential_line w.names p
line_text (Told w e) = event_line w e.line e.event
line_text (Plain text) = text

-- each line and its LF
abbrev pub text_of : List ReportLine → List ℕ
text_of lines = flat_map (λ line. line_text line ++ 10 ∷ []) lines

-- a report of one status and one line
abbrev pub says : Status → List ℕ → Report
says status text = record { status = status; lines = Plain text ∷ [] }

-- the report with lines before it
abbrev pub after : List ReportLine → Report → Report
after lines rest = record { status = rest.status; lines = lines ++ rest.lines }

-- words with a number after them, as a line of the report has them
abbrev pub at_line : List ℕ → ℕ → List ℕ
at_line words number = words ++ decimal number

-- ---- how a replay ends
-- why an event is impossible
abbrev pub reason : Outcome → List ℕ
reason (Wrong res) = codes "the rules give " ++ res_text res
reason NoProcess = codes "no process"
reason NoSpace = codes "no space"
reason PidInUse = codes "pid in use"
reason (Goes s) = []

-- the line of an event that is no step, for this reason, with the number of its line
abbrev pub impossible_text : ℕ → List ℕ → List ℕ
impossible_text number why = at_line (codes "impossible line ") number ++ codes ": " ++ why

-- an event that is no step
abbrev pub impossible : ℕ → Outcome → Report
impossible number become = says status.Impossible (impossible_text number (reason become))

-- a fault of a line in words: an argument has its number
abbrev pub fault_text : LineFault → List ℕ
fault_text (fault.Argument n) = at_line (line_fault_word (fault.Argument n) ++ codes " ") n
fault_text why = line_fault_word why

-- the line of a line of the log with a fault, with the number of that line
abbrev pub bad_log_text : ℕ → LineFault → List ℕ
bad_log_text number why = at_line (codes "bad log line ") number ++ codes ": " ++ fault_text why

-- a line with a fault
abbrev pub bad_log : ℕ → LineFault → Report
bad_log number why = says status.BadLog (bad_log_text number why)

-- the line of a limit, with its name and its number
abbrev pub limit_text : Limited → List ℕ
limit_text l = codes "limit " ++ limit_name l ++ codes " " ++ decimal (limit_number l)

-- a limit that was exceeded
abbrev pub limit_hit : Limited → Report
limit_hit l = says status.Limit (limit_text l)

-- the end of the log, with the number of its events
abbrev pub ended : ℕ → Report
ended count = says status.Accepted (at_line (codes "end ") count)

-- what stopped the reading
abbrev pub stopped : Stop → Report
stopped (Fault number why) = bad_log number why
stopped (Limit l) = limit_hit l

-- how the reading ended, after so many events
abbrev pub by_end : ℕ → End → Report
by_end count AtEnd = ended count
by_end count (Stops stop) = stopped stop

-- ---- the limits of a state
-- the rest, unless a limit is exceeded
abbrev pub unless_exceeded : Option Limited → Report → Report
unless_exceeded None rest = rest
unless_exceeded (Some l) rest = limit_hit l

-- ---- the replay
-- the credential line of a process, where there is one
abbrev pub credentials_if : World → Option Process → List ReportLine
credentials_if w None = []
credentials_if w (Some p) = Credentials w p ∷ []

-- the credential line of the child that a result tells
abbrev pub child_lines : World → State → Res → List ReportLine
child_lines w s (Child pid) = credentials_if w (process_at s.processes pid)
child_lines w s _ = []

-- the lines of an event that is a step to the state: the event, its caller's credentials where it lives on, and those of
-- the child at a birth
abbrev pub step_lines : World → State → Placed → List ReportLine
step_lines w s e = Told w e ∷ credentials_if w (process_at s.processes e.event.pid) ++ child_lines w s e.event.res

-- The report from an event on, by what becomes of it; the rest goes on from the state that it leads to. A step to a state
-- that exceeds a limit isn't taken.
abbrev pub by_outcome : World → Placed → (State → Report) → Outcome → Report
by_outcome w e rest (Goes s) = unless_exceeded (exceeded s) (after (step_lines w s e) (rest s))
by_outcome w e rest become = impossible e.line become

-- The replay of events, after which the reading ends so: from a state on, with so many events before.
abbrev pub replayed : World → State → ℕ → List Placed → End → Report
replayed w s count [] ending = by_end count ending
replayed w s count (e ∷ events) ending = by_outcome w e (λ s'. replayed w s' (count + 1) events ending) (outcome w s e.event)

-- ---- a replay that isn't shown
-- the lines of plain text among them
abbrev pub plain_lines : List ReportLine → List ReportLine
plain_lines [] = []
plain_lines (Plain text ∷ lines) = Plain text ∷ plain_lines lines
plain_lines (Credentials w p ∷ lines) = plain_lines lines
plain_lines (Told w e ∷ lines) = plain_lines lines

-- What is left of the lines of a replay with this status: nothing where it is accepted, else the line that says why not.
abbrev pub silenced : Status → List ReportLine → List ReportLine
silenced status.Accepted lines = []
silenced _ lines = plain_lines lines

-- a replay that isn't shown
abbrev pub silent : Report → Report
silent r = record { status = r.status; lines = silenced r.status r.lines }

-- ---- the state after events
-- The state that events lead to. (An event that is no step changes nothing; after an accepted log there is none.)
abbrev pub state_or : State → Outcome → State
state_or s (Goes s') = s'
state_or s _ = s

-- The state that events lead to, one after another.
abbrev pub state_after : World → State → List Event → State
state_after w s [] = s
state_after w s (e ∷ es) = state_after w (state_or s (outcome w s e)) es
