-- For which tasks, and where, the file of a claim is read; and what is answered of one.
use Rattle.std.specs.Prelude.{◌≡◌}
use Rattle.cm_base.specs.declared.status.Status.{Status}
use Rattle.cm_base.specs.declared.status.Status.TheVariants as answers
use Rattle.cm_cli.specs.Query.{query_view}
use Rattle.cm_cli.specs.declared.reading.Unread.{Unread}
use Rattle.cm_cli.specs.declared.reading.Unread.TheVariants as unread
use Rattle.cm_cli.specs.declared.query.Task.{Task}
use Rattle.cm_cli.specs.declared.query.Task.TheVariants as task
use Rattle.model_cred.specs.Process.{Process, State}
use Rattle.model_cred.specs.Right.{Right}
use Rattle.model_cred.specs.World.{World}
use Rattle.model_report.specs.Causes.{AsksVerdict, RunWithin}
use Rattle.model_report.specs.Query.{Query}
use Rattle.model_text.specs.Reading.{AtEnd, Reading, events_of}

-- the query stands in the state: it asks about a right of a family
abbrev pub StandsIn : Query → World → State → Type 0
StandsIn q w s = (p : Process) × (right : Right) × AsksVerdict q w s p right

-- the task is a claim, whose query stands
abbrev pub ClaimStands : Task → World → State → Type 0
ClaimStands task.Nothing w s = ⊥
ClaimStands (task.Judge q) w s = ⊥
ClaimStands (task.Claims claim) w s = StandsIn (query_view claim.query) w s

-- The log is accepted, and this holds of the state that its events lead to.
pub record AfterReading (w : World) (reading : Reading) (Holds : State → Type 0) : Type 0 where
  pub state : State
  pub ends : reading.ending ≡ AtEnd
  pub run : RunWithin w w.start (events_of reading.events) state
  pub holds : Holds state

-- the log is accepted, and the task is a claim, whose query stands then
abbrev pub ClaimStandsAfter : Task → World → Reading → Type 0
ClaimStandsAfter t w reading = AfterReading w reading (ClaimStands t w)

-- the answers that a log, or what is asked after it, may have
abbrev pub IsLogAnswer : Status → Type 0
IsLogAnswer answers.Accepted = Unit {0}
IsLogAnswer answers.No = Unit {0}
IsLogAnswer answers.Undecided = Unit {0}
IsLogAnswer answers.Impossible = Unit {0}
IsLogAnswer answers.BadLog = Unit {0}
IsLogAnswer answers.Limit = Unit {0}
IsLogAnswer answers.Refused = Unit {0}
IsLogAnswer answers.BadQuery = Unit {0}
IsLogAnswer _ = ⊥

-- the file has more bytes than its limit
abbrev pub IsTooMuch : Unread → Type 0
IsTooMuch (unread.TooMuch l) = Unit {0}
IsTooMuch _ = ⊥
