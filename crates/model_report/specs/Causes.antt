-- Why a command answers what it does, in the words of worlds, events and runs: each status and its cause.
use Rattle.std.specs.Prelude.{◌≡◌, ◌≤◌, ◌<◌, ◌⊎◌, ℕ, length, List, ◌∷◌, ◌++◌, Some, None, Result, Ok, Err}
use Rattle.cm_base.specs.declared.faults.LineFault.{LineFault}
use Rattle.cm_base.specs.declared.faults.Table.{Table}
use Rattle.cm_base.specs.declared.faults.WorldFault.{WorldFault}
use Rattle.cm_base.specs.declared.limited.Limited.{Limited}
use Rattle.cm_base.specs.declared.limited.Limited.TheVariants as limit
use Rattle.cm_base.specs.declared.status.Status.{Status}
use Rattle.cm_base.specs.declared.status.Status.TheVariants as status
use Rattle.cm_base.specs.Limited.{limit_number}
use Rattle.model_box.specs.Bounds.{BoxRow}
use Rattle.model_box.specs.Meets.{IsOverStanding}
use Rattle.model_cert.specs.Document.{certificate}
use Rattle.model_cert.specs.Fault.{CertFault}
use Rattle.model_confirm.specs.Causes.{EndsWithHolder, EndsWithout, IsLineRefused, IsPastLimit}
use Rattle.model_cred.specs.Process.{Process, State}
use Rattle.model_cred.specs.Right.{Right}
use Rattle.model_cred.specs.World.{World}
use Rattle.model_report.specs.Checked.{RowsExclude}
use Rattle.model_report.specs.Command.{Drill, NoForm, command_of, files_of, task_of}
use Rattle.model_report.specs.Query.{Query, asked_process, right_token}
use Rattle.model_report.specs.Task.{Task, NoTask, ToJudge, ToCheck, ToConfirm, query_in}
use Rattle.model_run.specs.Family.{family}
use Rattle.model_run.specs.Step.{Step}
use Rattle.model_run.specs.Within.{exceeded}
pub use Rattle.model_run.specs.Within.{RunWithin}
use Rattle.model_strace.specs.Logs.{log_reading}
use Rattle.model_text.specs.Reading.{Placed, Stop, Fault, Limit, End, AtEnd, Stops, Reading, events_of, script_reading}
use Rattle.model_text.specs.WorldText.{WorldText, Reads, Bad, Exceeds, world_text}
use Rattle.model_verdict.specs.InWorld.{ExcludedIn, FoundIn, OpenIn}

-- The words name a world, whose text is within its limit and reads so, and this log; it may be that they name another file.
pub record Names (words : List (List ℕ)) (bytes : List ℕ → List ℕ) (text : WorldText) (log : List ℕ) : Type 0 where
  pub world : List ℕ
  pub more : List (List ℕ × Limited)
  pub command : files_of (command_of words) ≡ (world, limit.World) ∷ (log, limit.Log) ∷ more
  pub size : length (bytes world) ≤ limit_number limit.World
  pub reads : world_text (bytes world) ≡ text

-- The replay begins: the words name the world w and a log, which reads so in the form that w declares.
pub record Begins (words : List (List ℕ)) (bytes : List ℕ → List ℕ) (w : World) (reading : Reading) : Type 0 where
  pub log : List ℕ
  pub names : Names words bytes (Reads w) log
  pub reads : log_reading w (bytes log) ≡ reading

-- The replay comes to an end: the log reads as these events, which are a run within the limits from the world's state to s,
-- and ends so.
pub record ComesTo (words : List (List ℕ)) (bytes : List ℕ → List ℕ) (w : World) (s : State) (ending : End) : Type 0 where
  pub events : List Placed
  pub begins : Begins words bytes w (record { events = events; ending = ending })
  pub run : RunWithin w w.start (events_of events) s

-- The log is accepted: it reads as events that are a run within the limits, which leads to the state, and the reading ends at the log's end.
pub record IsAccepted (words : List (List ℕ)) (bytes : List ℕ → List ℕ) : Type 0 where
  pub world : World
  pub state : State
  pub comes : ComesTo words bytes world state AtEnd

-- The events that the log reads as are a run, and the reading stops so: at the fault of a line, or at a limit. Among these
-- are the limits of the log's bytes and of a line's, which stop it in their place, after the lines before.
pub record IsStopped (words : List (List ℕ)) (bytes : List ℕ → List ℕ) (stop : Stop) : Type 0 where
  pub world : World
  pub state : State
  pub comes : ComesTo words bytes world state (Stops stop)

-- Impossible: the events before one are a run, which leads to the state, and from there the event is no step.
pub record IsImpossible (words : List (List ℕ)) (bytes : List ℕ → List ℕ) : Type 0 where
  pub world : World
  pub state : State
  pub before : List Placed
  pub event : Placed
  pub later : List Placed
  pub ending : End
  pub begins : Begins words bytes world (record { events = before ++ event ∷ later; ending = ending })
  pub run : RunWithin world world.start (events_of before) state
  pub no_step : (after : State) → ¬ Step world state event.event after

-- Crowded: the events before one are a run, and that one leads to a state which exceeds the limit.
pub record IsCrowded (words : List (List ℕ)) (bytes : List ℕ → List ℕ) (exceeds : Limited) : Type 0 where
  pub world : World
  pub state : State
  pub before : List Placed
  pub event : Placed
  pub later : List Placed
  pub ending : End
  pub begins : Begins words bytes world (record { events = before ++ event ∷ later; ending = ending })
  pub run : RunWithin world world.start (events_of before) state
  pub after : State
  pub step : Step world state event.event after
  pub over : exceeded after ≡ Some exceeds

-- the world that the words name is too long
abbrev pub IsLongWorld : List (List ℕ) → (List ℕ → List ℕ) → Type 0
IsLongWorld words bytes =
    (world : List ℕ) × (more : List (List ℕ × Limited)) × (files_of (command_of words) ≡ (world, limit.World) ∷ more)
    × (limit_number limit.World < length (bytes world))

-- ---- what is asked, in the state after an accepted log
-- the query's pid is that of a live process, and its right is a right
pub record Asks (q : Query) (w : World) (s : State) (p : Process) (right : Right) : Type 0 where
  pub process : asked_process s q.pid ≡ Some p
  pub asked : right_token w.names q.right ≡ Some right

-- The query stands: it asks about a right of the family of a live process, the space that the right names stands, and the
-- family isn't too large.
pub record AsksVerdict (q : Query) (w : World) (s : State) (p : Process) (right : Right) : Type 0 where
  pub asks : Asks q w s p right
  pub standing : IsOverStanding s.spaces right
  pub size : length (family s p.pid) ≤ limit_number limit.Family

-- The query stands, and this holds of the members of the family and of the right.
abbrev pub OfFamily : Query → World → State → (List ℕ → Right → Type 0) → Type 0
OfFamily q w s Holds = (p : Process) × (right : Right) × AsksVerdict q w s p right × Holds (family s p.pid) right

-- Yes: some bounds that are closed, and cover the family, exclude the right.
abbrev pub IsYes : Query → World → State → Type 0
IsYes q w s = OfFamily q w s (λ members right. ExcludedIn w s members right)

-- No: some plan of the list ends with a member of the family that holds the right.
abbrev pub IsNo : Query → World → State → Type 0
IsNo q w s = OfFamily q w s (λ members right. FoundIn w s members right)

-- Undecided: all bounds that are closed and cover the family meet the right, and no plan of the list ends so.
abbrev pub IsUndecided : Query → World → State → Type 0
IsUndecided q w s = OfFamily q w s (λ members right. OpenIn w s members right)

-- The bytes of a certificate are within their limit, and read so over the spaces of the state.
pub record ReadsAs (s : State) (text : List ℕ) (rows : Result (List BoxRow) CertFault) : Type 0 where
  pub size : length text ≤ limit_number limit.Certificate
  pub reads : certificate (length s.spaces) text ≡ rows

-- A certificate holds: it reads as rows that are closed, cover the family, and don't meet the right.
abbrev pub IsHeld : Query → List ℕ → World → State → Type 0
IsHeld q text w s =
    OfFamily q w s (λ members right. (rows : List BoxRow) × ReadsAs s text (Ok rows) × RowsExclude w s members right rows)

-- It is refused: it isn't read; or it reads as rows that aren't such.
pub data CertificateRefused (text : List ℕ) (w : World) (s : State) (members : List ℕ) (right : Right) : Type 0 where
  by_reading : (why : CertFault) → ReadsAs s text (Err why) → CertificateRefused text w s members right
  by_rows : (rows : List BoxRow) → ReadsAs s text (Ok rows) → (RowsExclude w s members right rows → ⊥)
      → CertificateRefused text w s members right

-- A run is confirmed: its bytes are within their limit, and read as a later run of the family, within the limits, at whose
-- end a member holds the right.
abbrev pub IsConfirmed : Query → List ℕ → World → State → Type 0
IsConfirmed q text w s =
    (length text ≤ limit_number limit.Run)
    × OfFamily q w s (λ members right. (pid : ℕ) × EndsWithHolder w s members right (script_reading w text) pid)

-- It is refused: at a line that has a fault, or whose event is none that a member can make; or at its end, where no member
-- holds the right.
pub data RunRefused (text : List ℕ) (w : World) (s : State) (members : List ℕ) (right : Right) : Type 0 where
  at_its_line : (number : ℕ) → IsLineRefused w s members (script_reading w text) number → RunRefused text w s members right
  at_its_end : EndsWithout w s members right (script_reading w text) → RunRefused text w s members right

-- A bad query: its pid is that of no live process; or else its right is none; or else the right's space doesn't stand.
pub data IsBadQuery (q : Query) (w : World) (s : State) : Type 0 where
  no_process : asked_process s q.pid ≡ None → IsBadQuery q w s
  no_right : (p : Process) → asked_process s q.pid ≡ Some p → right_token w.names q.right ≡ None → IsBadQuery q w s
  no_space : (p : Process) (right : Right) → Asks q w s p right → (IsOverStanding s.spaces right → ⊥) → IsBadQuery q w s

-- Too large: the query is good, and the family of its process has more members than the limit.
abbrev pub IsLarge : Query → World → State → Type 0
IsLarge q w s =
    (p : Process) × (right : Right) × Asks q w s p right × IsOverStanding s.spaces right
    × (limit_number limit.Family < length (family s p.pid))

-- ---- what stands of a task, in the state after an accepted log
-- it is done: nothing is asked; the verdict is yes; the certificate holds; the run is confirmed
abbrev pub IsDone : Task → World → State → Type 0
IsDone NoTask w s = Unit {0}
IsDone (ToJudge q) w s = IsYes q w s
IsDone (ToCheck q text) w s = IsHeld q text w s
IsDone (ToConfirm q text) w s = IsConfirmed q text w s

-- the verdict is no
abbrev pub IsAnsweredNo : Task → World → State → Type 0
IsAnsweredNo (ToJudge q) w s = IsNo q w s
IsAnsweredNo _ w s = ⊥

-- the verdict is undecided
abbrev pub IsLeftOpen : Task → World → State → Type 0
IsLeftOpen (ToJudge q) w s = IsUndecided q w s
IsLeftOpen _ w s = ⊥

-- the certificate or the run is refused
abbrev pub IsRefused : Task → World → State → Type 0
IsRefused (ToCheck q text) w s = OfFamily q w s (λ members right. CertificateRefused text w s members right)
IsRefused (ToConfirm q text) w s =
    (length text ≤ limit_number limit.Run) × OfFamily q w s (λ members right. RunRefused text w s members right)
IsRefused _ w s = ⊥

-- this holds of the query
abbrev pub OfQuery : (Query → World → State → Type 0) → Task → World → State → Type 0
OfQuery Holds task w s = (q : Query) × (query_in task ≡ Some q) × Holds q w s

-- the certificate or the run is too long
abbrev pub IsTooLong : Task → World → State → Type 0
IsTooLong (ToCheck q text) w s =
    OfFamily q w s (λ members right. limit_number limit.Certificate < length text)
IsTooLong (ToConfirm q text) w s =
    OfFamily q w s (λ members right. limit_number limit.Run < length text)
IsTooLong _ w s = ⊥

-- a line or a step of the run exceeds a limit
abbrev pub IsPast : Task → World → State → Type 0
IsPast (ToConfirm q text) w s =
    (length text ≤ limit_number limit.Run)
    × OfFamily q w s (λ members right. (l : Limited) × IsPastLimit w s members (script_reading w text) l)
IsPast _ w s = ⊥

-- This stands of what the words ask, in the world and in the state after the accepted log.
abbrev pub AfterLog : List (List ℕ) → (List ℕ → List ℕ) → (Task → World → State → Type 0) → Type 0
AfterLog words bytes Stands =
    (is : IsAccepted words bytes) × Stands (task_of (command_of words) bytes) is.world is.state

-- ---- limits
-- The world is too long; its text exceeds a limit; so does the log, or a line of it, after a run; or a step of it would; the
-- family that is asked about is too large; the certificate or the run is too long; or a line or a step of the run exceeds a
-- limit.
pub data IsLimited (words : List (List ℕ)) (bytes : List ℕ → List ℕ) : Type 0 where
  by_world : IsLongWorld words bytes → IsLimited words bytes
  by_row : (l : Limited) (log : List ℕ) → Names words bytes (Exceeds l) log → IsLimited words bytes
  by_line : (l : Limited) → IsStopped words bytes (Limit l) → IsLimited words bytes
  by_step : (l : Limited) → IsCrowded words bytes l → IsLimited words bytes
  by_family : AfterLog words bytes (OfQuery IsLarge) → IsLimited words bytes
  by_size : AfterLog words bytes IsTooLong → IsLimited words bytes
  by_run : AfterLog words bytes IsPast → IsLimited words bytes

-- ---- the causes
-- the words ask for a drill
abbrev pub IsDrill : List (List ℕ) → Type 0
IsDrill words = (n : ℕ) × (command_of words ≡ Drill n)

-- The cause of each status that comes of the words and of the bytes of the files.
abbrev pub Cause : List (List ℕ) → (List ℕ → List ℕ) → Status → Type 0
Cause words bytes status.Accepted = AfterLog words bytes IsDone ⊎ IsDrill words
Cause words bytes status.No = AfterLog words bytes IsAnsweredNo
Cause words bytes status.Undecided = AfterLog words bytes IsLeftOpen
Cause words bytes status.Impossible = IsImpossible words bytes
Cause words bytes status.BadWorld =
    (table : Table) × (row : ℕ) × (why : WorldFault) × (log : List ℕ) × Names words bytes (Bad table row why) log
Cause words bytes status.BadLog = (number : ℕ) × (why : LineFault) × IsStopped words bytes (Fault number why)
Cause words bytes status.Usage = command_of words ≡ NoForm
Cause words bytes status.Limit = IsLimited words bytes
Cause words bytes status.Refused = AfterLog words bytes IsRefused
Cause words bytes status.BadQuery = AfterLog words bytes (OfQuery IsBadQuery)
Cause words bytes _ = ⊥
