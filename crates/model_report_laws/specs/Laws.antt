-- What is proved of the report as a whole.
use Rattle.std.specs.Prelude.{◌≡◌, ◌≤◌, ◌<◌, ◌^◌, ◌↔◌, ◌⊎◌, ℕ, ◌==◌, codes, IsTrue, length, List, [], ◌∷◌, ◌++◌}
use Rattle.std.specs.Prelude.{Option, Some, None, IsSomeAnd, All, Any, if◌then◌else◌}
use Rattle.std.specs.Option.{option_or}
use Rattle.cm_base.specs.declared.faults.LineFault.{LineFault}
use Rattle.cm_base.specs.declared.limited.Limited.{Limited}
use Rattle.cm_base.specs.declared.limited.Limited.TheVariants as limit
use Rattle.cm_base.specs.declared.status.Status.{Status}
use Rattle.cm_base.specs.declared.status.Status.TheVariants as status
use Rattle.cm_base.specs.Limited.{limit_number}
use Rattle.model_cred.specs.Process.{Process, State, process_at}
use Rattle.model_cred.specs.World.{World, LogForm, Script, Strace}
use Rattle.model_report.specs.Causes.{Begins, Cause, IsAccepted, IsDrill, IsImpossible, IsStopped}
use Rattle.model_report.specs.Command.{Command, Replay, Audit, Check, Confirm, Drill, NoForm, command_of, task_of}
use Rattle.model_report.specs.Given.{Gives}
use Rattle.model_report.specs.Judged.{Judged}
use Rattle.model_report.specs.Replay.{Report, ReportLine, Credentials, Told, Plain, at_line, bad_log_text, impossible_text, limit_text, reason, text_of}
use Rattle.model_report.specs.Report.{report, log_report, shows}
use Rattle.model_report.specs.Task.{Task}
use Rattle.model_run.specs.Step.{Step, Run, outcome}
use Rattle.model_strace.specs.LineNumbers as strace
use Rattle.model_strace.specs.Logs.{log_reading}
use Rattle.cm_lines.specs.Lines.{lines_of}
use Rattle.model_text.specs.Line.{Line, Tells, Faulty, script_line}
use Rattle.model_text.specs.Numbers.{StandsFor}
use Rattle.model_text.specs.Print.{event_text}
use Rattle.model_text.specs.Reading.{Placed, Fault, Limit, Reading, events_of}

-- There is something judged that the words and the files give, whatever they are.
unfoldable pub JudgedIsGiven : Type 0
JudgedIsGiven = (words : List (List ℕ)) (bytes : List ℕ → List ℕ) → (j : Judged) × Gives words bytes j

-- And with each that they give the report is one.
unfoldable pub ReportIsOne : Type 0
ReportIsOne = (words : List (List ℕ)) (bytes : List ℕ → List ℕ) (j other : Judged) → Gives words bytes j
    → Gives words bytes other → report words bytes j ≡ report words bytes other

-- A status comes exactly by its cause, whatever the words and the files.
unfoldable pub EachByItsCause : Type 0
EachByItsCause = (words : List (List ℕ)) (bytes : List ℕ → List ℕ) (j : Judged) (st : Status) → Gives words bytes j
    → ((report words bytes j).status ≡ st) ↔ Cause words bytes st

-- ---- answers as asked
-- None of the causes of a refusal stands, of the words, the world, the log, a limit or the query.
pub record IsValid (words : List (List ℕ)) (bytes : List ℕ → List ℕ) : Type 0 where
  pub usage : ¬ Cause words bytes status.Usage
  pub limit : ¬ Cause words bytes status.Limit
  pub bad_world : ¬ Cause words bytes status.BadWorld
  pub bad_log : ¬ Cause words bytes status.BadLog
  pub impossible : ¬ Cause words bytes status.Impossible
  pub bad_query : ¬ Cause words bytes status.BadQuery

-- The command answers as asked: a replay and a drill are accepted; an audit is yes, no or undecided; a certificate holds or
-- is refused, and a run is confirmed or refused.
abbrev pub IsAsAsked : Command → Status → Type 0
IsAsAsked (Replay world log) st = st ≡ status.Accepted
IsAsAsked (Audit world log pid right) st = (st ≡ status.Accepted) ⊎ (st ≡ status.No) ⊎ (st ≡ status.Undecided)
IsAsAsked (Check world log pid right certificate) st = (st ≡ status.Accepted) ⊎ (st ≡ status.Refused)
IsAsAsked (Confirm world log pid right run) st = (st ≡ status.Accepted) ⊎ (st ≡ status.Refused)
IsAsAsked (Drill n) st = st ≡ status.Accepted
IsAsAsked NoForm st = ⊥

-- Valid input is answered as asked.
unfoldable pub ValidIsAnswered : Type 0
ValidIsAnswered = (words : List (List ℕ)) (bytes : List ℕ → List ℕ) (j : Judged) → Gives words bytes j → IsValid words bytes
    → IsAsAsked (command_of words) (report words bytes j).status

-- ---- a log
-- the words ask for a command that shows the replay
abbrev pub IsShown : List (List ℕ) → (List ℕ → List ℕ) → Type 0
IsShown words bytes = IsTrue (shows (task_of (command_of words) bytes))

-- the events of a replay, where it is shown
abbrev pub those_shown : List (List ℕ) → (List ℕ → List ℕ) → List Placed → List Placed
those_shown words bytes events = if shows (task_of (command_of words) bytes) then events else []

-- the process of the last credential line of that pid
abbrev pub last_credentials : ℕ → List ReportLine → Option Process
last_credentials pid [] = None
last_credentials pid (Credentials w p ∷ lines) = option_or (last_credentials pid lines) (if p.pid == pid then Some p else None)
last_credentials pid (Told w e ∷ lines) = last_credentials pid lines
last_credentials pid (Plain text ∷ lines) = last_credentials pid lines

-- The last credential line of each live process in the state shows it as it is there but for its forebear, which the line
-- doesn't tell and which an exit may change.
abbrev pub Shows : List ReportLine → State → Type 0
Shows lines s =
    (p : Process) → process_at s.processes p.pid ≡ Some p
    → IsSomeAnd (last_credentials p.pid lines) (λ q. (q.pid ≡ p.pid) × (q.space ≡ p.space) × (q.cred ≡ p.cred))

-- Where the status is 0, and no drill is asked for, the events of the log are a run from the world's state; and a report
-- that shows the replay shows the state that the run reaches.
unfoldable pub AcceptedIsRun : Type 0
AcceptedIsRun =
    (words : List (List ℕ)) (bytes : List ℕ → List ℕ) (j : Judged) → Gives words bytes j → ¬ IsDrill words
    → (report words bytes j).status ≡ status.Accepted → (is : IsAccepted words bytes)
    × Run is.world is.world.start (events_of is.comes.events) is.state × (IsShown words bytes → Shows (report words bytes j).lines is.state)

-- Where it is impossible, the events before one are a run, and no state follows by that event; and a report that shows the
-- replay shows the state that the run reaches.
unfoldable pub ImpossibleIsNoStep : Type 0
ImpossibleIsNoStep =
    (words : List (List ℕ)) (bytes : List ℕ → List ℕ) (j : Judged) → Gives words bytes j
    → (report words bytes j).status ≡ status.Impossible → (is : IsImpossible words bytes)
    × Run is.world is.world.start (events_of is.before) is.state × (IsShown words bytes → Shows (report words bytes j).lines is.state)

-- ---- the lines of a report, one by one
-- the events that lines tell, each with its number
abbrev pub told_in : List ReportLine → List Placed
told_in [] = []
told_in (Credentials w p ∷ lines) = told_in lines
told_in (Told w e ∷ lines) = e ∷ told_in lines
told_in (Plain text ∷ lines) = told_in lines

-- Read from the top, from a state on: each event that is told is a step, and each credential line shows the process of its
-- pid as it is after the events before it.
abbrev pub AreTrue : World → State → List ReportLine → Type 0
AreTrue w s [] = Unit {0}
AreTrue w s (Credentials v p ∷ lines) = (process_at s.processes p.pid ≡ Some p) × AreTrue w s lines
AreTrue w s (Told v e ∷ lines) = (s' : State) × Step w s e.event s' × AreTrue w s' lines
AreTrue w s (Plain text ∷ lines) = AreTrue w s lines

-- The line with that number of a log of that form, the first one having 1, stands for this in the world: by itself, or with
-- what is known where it is read.
abbrev pub FormStandsFor : LogForm → World → List ℕ → ℕ → Line → Type 0
FormStandsFor Script w log number meaning = StandsFor w 1 (lines_of log) number meaning
FormStandsFor Strace w log number meaning = strace.StandsFor w (lines_of log) number meaning

-- The line of the world's log with that number stands for this.
abbrev pub LineStandsFor : World → List ℕ → ℕ → Line → Type 0
LineStandsFor w log number meaning = FormStandsFor w.form w log number meaning

-- What the lines of a report say of a log in a world: they are true from the world's state on; they tell the first of the
-- log's events, in their order and none left out; and the number of each is that of the line which tells it.
pub record TellsOfLog (w : World) (log : List ℕ) (lines : List ReportLine) : Type 0 where
  pub are_true : AreTrue w w.start lines
  pub untold : List Placed
  pub order : (log_reading w log).events ≡ told_in lines ++ untold
  pub numbers : All (λ e. LineStandsFor w log e.line (Tells e.event)) (told_in lines)

-- The report tells so of the log whose replay begins. (One that doesn't show the replay tells no event.)
unfoldable pub ReportTellsOfLog : Type 0
ReportTellsOfLog = (words : List (List ℕ)) (bytes : List ℕ → List ℕ) (j : Judged) (w : World) (reading : Reading)
    → (begins : Begins words bytes w reading) → TellsOfLog w (bytes begins.log) (report words bytes j).lines

-- After lines that tell these events comes this line, and then lines that tell none.
pub record EndsIn (lines : List ReportLine) (events : List Placed) (text : List ℕ) (answer : List ReportLine) : Type 0 where
  pub before : List ReportLine
  pub cut : lines ≡ before ++ Plain text ∷ answer
  pub told : told_in before ≡ events
  pub silent : told_in answer ≡ []

-- Where the replay is shown, N of `end N` is the number of the log's events, all of which are told before it. (After it comes
-- the answer to an audit.)
unfoldable pub EndCountsEvents : Type 0
EndCountsEvents = (words : List (List ℕ)) (bytes : List ℕ → List ℕ) (j : Judged) (is : IsAccepted words bytes) → IsShown words bytes
    → (answer : List ReportLine) × EndsIn (report words bytes j).lines is.comes.events (at_line (codes "end ") (length is.comes.events)) answer

-- K of `impossible line K` is the number of the line that tells the event, and the events before it are told before where the
-- replay is shown; the reason is what becomes of the event.
unfoldable pub ImpossibleIsNumbered : Type 0
ImpossibleIsNumbered = (words : List (List ℕ)) (bytes : List ℕ → List ℕ) (j : Judged) (is : IsImpossible words bytes)
    → EndsIn (report words bytes j).lines (those_shown words bytes is.before)
    (impossible_text is.event.line (reason (outcome is.world is.state is.event.event))) []
    × LineStandsFor is.world (bytes is.begins.log) is.event.line (Tells is.event.event)

-- K of `bad log line K` is the number of a line with that fault, and the events before it are told before where the replay is
-- shown.
unfoldable pub BadLogIsNumbered : Type 0
BadLogIsNumbered =
    (words : List (List ℕ)) (bytes : List ℕ → List ℕ) (j : Judged) (number : ℕ) (why : LineFault)
    (is : IsStopped words bytes (Fault number why))
    → EndsIn (report words bytes j).lines (those_shown words bytes is.comes.events) (bad_log_text number why) []
    × LineStandsFor is.world (bytes is.comes.begins.log) number (Faulty why)

-- What is written of an event of the log, whatever form that has, is read as a line of a script that tells the event: so it
-- is with each event of a log that has fewer than 2 ^ 31 lines.
unfoldable pub EventsReadBack : Type 0
EventsReadBack = (words : List (List ℕ)) (bytes : List ℕ → List ℕ) (w : World) (reading : Reading)
    → (begins : Begins words bytes w reading) → length (lines_of (bytes begins.log)) < 2 ^ 31
    → All (λ e. script_line w (event_text w e.event) ≡ Tells e.event) reading.events

-- So it is with each event that a report tells, after the number of its line, however many lines the log has.
unfoldable pub ToldEventsReadBack : Type 0
ToldEventsReadBack = (words : List (List ℕ)) (bytes : List ℕ → List ℕ) (j : Judged) (w : World) (reading : Reading)
    → Begins words bytes w reading
    → All (λ e. script_line w (event_text w e.event) ≡ Tells e.event) (told_in (report words bytes j).lines)

-- ---- the limits of a log
-- Where the reading stops at a limit, the line that tells it is the last, and the events before it are told before where the
-- replay is shown.
unfoldable pub LimitIsLast : Type 0
LimitIsLast =
    (words : List (List ℕ)) (bytes : List ℕ → List ℕ) (j : Judged) (l : Limited) (is : IsStopped words bytes (Limit l))
    → EndsIn (report words bytes j).lines (those_shown words bytes is.comes.events) (limit_text l) []

-- The limit of a log's bytes stops a reading only where the log has more of them; that of a line's bytes, only where one of the
-- log's lines has more.
unfoldable pub LogLimitsAreExceeded : Type 0
LogLimitsAreExceeded = (words : List (List ℕ)) (bytes : List ℕ → List ℕ)
    → ((is : IsStopped words bytes (Limit limit.Log)) → limit_number limit.Log < length (bytes is.comes.begins.log))
    × ((is : IsStopped words bytes (Limit limit.Line))
    → Any (λ line. limit_number limit.Line < length line) (lines_of (bytes is.comes.begins.log)))

-- An accepted log is within both.
unfoldable pub AcceptedIsWithin : Type 0
AcceptedIsWithin = (words : List (List ℕ)) (bytes : List ℕ → List ℕ) (is : IsAccepted words bytes)
    → (length (bytes is.comes.begins.log) ≤ limit_number limit.Log)
    × All (λ line. length line ≤ limit_number limit.Line) (lines_of (bytes is.comes.begins.log))

-- ---- readings
-- The reports have the same status and the same text.
pub record SameText (one other : Report) : Type 0 where
  pub status : one.status ≡ other.status
  pub text : text_of one.lines ≡ text_of other.lines

-- The worlds are the same but for the form of log that they declare.
abbrev pub DifferInForm : World → World → Type 0
DifferInForm v w = w ≡ record v { form = w.form }

-- Logs that read as the same events in the same places, and whose readings end alike, have the same report, byte for byte,
-- whatever forms their worlds declare.
unfoldable pub SameReadingSameReport : Type 0
SameReadingSameReport =
    (task : Task) (j : Judged) (v w : World) (one other : Reading) → DifferInForm v w
    → one.events ≡ other.events → one.ending ≡ other.ending
    → SameText (log_report task j v one) (log_report task j w other)

-- So over the texts of worlds that differ in the form of log alone: two logs whose replays begin, and which read as the same
-- events in the same places and end alike, have the same report, byte for byte, each with what is given, where the same is
-- asked, of the same certificate or run.
unfoldable pub SameLogsSameReport : Type 0
SameLogsSameReport =
    (words : List (List ℕ)) (bytes other : List ℕ → List ℕ) (v w : World) (one two : Reading) (first second : Judged)
    → Begins words bytes v one → Begins words other w two → DifferInForm v w
    → one.events ≡ two.events → one.ending ≡ two.ending
    → task_of (command_of words) bytes ≡ task_of (command_of words) other
    → Gives words bytes first → Gives words other second
    → SameText (report words bytes first) (report words other second)
