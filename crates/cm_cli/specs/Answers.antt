-- What the top call promises, clause by clause.
use Rattle.std.specs.Prelude.{◌≡◌, ◌≢◌, ◌⊎◌, ◌↔◌, ◌≤◌, ℕ, List, [], ◌∷◌, Option, Some, IfSome}
use Rattle.cm_base.specs.declared.limited.Limited.{Limited}
use Rattle.cm_base.specs.declared.limited.Limited.TheVariants as limit
use Rattle.cm_base.specs.declared.status.Status.{Status}
use Rattle.cm_base.specs.declared.status.Status.TheVariants as answers
use Rattle.cm_cli.specs.Claims.{StandsIn}
use Rattle.cm_cli.specs.LogReport.{WritesReport}
use Rattle.cm_cli.specs.Reading.{AnyRose, LogStands, WorldStands}
use Rattle.cm_io.specs.Shelf.{Files, bytes_at, Rose}
use Rattle.cm_report.specs.Telling.{IsOfReport}
use Rattle.model_report.specs.Causes.{Cause}
use Rattle.model_report.specs.Command.{Command, NoForm, files_of, query_of}
use Rattle.model_report.specs.Given.{CommandGives}
use Rattle.model_report.specs.Judged.{Judged}
use Rattle.model_report.specs.Query.{Query}
use Rattle.model_report.specs.Replay.{Report}
use Rattle.model_report.specs.Report.{report, command_report}
use Rattle.model_report_laws.specs.Answers.{Asking, AsksVerdictOf, members_of}
use Rattle.model_report_laws.specs.Laws.{IsAsAsked}
pub use Rattle.model_report_laws.specs.Laws.{IsValid}
use Rattle.model_verdict.specs.InWorld.{SettledIn}

-- the report of the words over files, with what is judged
abbrev pub report_over : List (List ℕ) → Files → Judged → Report
report_over words files j = report words (bytes_at files) j

-- the answers that words of no form may have
abbrev pub IsUsageAnswer : Status → Type 0
IsUsageAnswer answer = (answer ≡ answers.Usage) ⊎ (answer ≡ answers.WriteFault) ⊎ (answer ≡ answers.NoMemory)

-- What a command answers and writes. Where it is told what the shelf holds, it is the report's status, and its text is
-- written, with whatever the command and the files give to be judged; after a fault a front of it is. Words of no form
-- give the usage, and no other words do.
pub record AnswersReport (held : Option Files) (command : Command) (answer : Status)
    (written written' : Option (List ℕ))
    : Type 0 where
  pub status : IfSome held (λ files. (j : Judged) → CommandGives command (bytes_at files) j → IsOfReport answer
      → answer ≡ (command_report command (bytes_at files) j).status)
  pub text : IfSome held (λ files. (j : Judged) → CommandGives command (bytes_at files) j
      → WritesReport (command_report command (bytes_at files) j) answer written written')
  pub usage : answer ≡ answers.Usage → command ≡ NoForm
  pub no_form : command ≡ NoForm → IsUsageAnswer answer

-- A file that the command names couldn't be read, by its count of faults, and nothing that is read before it is
-- refused: the world; or the log, where the world stands; or the third file, where the log is accepted and the query
-- stands.
pub data FailsInOrder (command : Command) (held : Files) (before now : List ℕ → ℕ) : Type 0 where
  at_world : (world : List ℕ) (more : List (List ℕ × Limited)) → files_of command ≡ (world, limit.World) ∷ more
      → Rose (before world) (now world) → FailsInOrder command held before now
  at_log : (world log : List ℕ) (more : List (List ℕ × Limited))
      → files_of command ≡ (world, limit.World) ∷ (log, limit.Log) ∷ more
      → WorldStands (bytes_at held world) → Rose (before log) (now log) → FailsInOrder command held before now
  at_third : (world log third : List ℕ) (l : Limited) (q : Query)
      → files_of command ≡ (world, limit.World) ∷ (log, limit.Log) ∷ (third, l) ∷ [] → query_of command ≡ Some q
      → LogStands (bytes_at held world) (bytes_at held log) (StandsIn q)
      → Rose (before third) (now third) → FailsInOrder command held before now

-- The shelf's counts of faults before and after a command: with `ReadFault` that of a file rose which the command
-- names, and nothing that is read before it is refused; with any other answer no count changed.
pub record CountsReads (held : Option Files) (command : Command) (answer : Status)
    (before now : List ℕ → ℕ) : Type 0 where
  pub fault : answer ≡ answers.ReadFault → AnyRose (files_of command) before now
  pub order : IfSome held (λ files. answer ≡ answers.ReadFault → FailsInOrder command files before now)
  pub later : (n : List ℕ) → before n ≤ now n
  pub stay : answer ≢ answers.ReadFault → (n : List ℕ) → now n ≡ before n

-- no count of faults rose, neither that of one of these files nor the sink's
pub record NoneRose (files : List (List ℕ × Limited)) (reads reads' : List ℕ → ℕ) (writes writes' : ℕ) : Type 0 where
  pub reads_same : ¬ AnyRose files reads reads'
  pub writes_same : ¬ Rose writes writes'

-- The answer comes exactly by its cause.
abbrev pub ComesByCause : List (List ℕ) → Files → Status → Type 0
ComesByCause words files answer = (st : Status) → (answer ≡ st) ↔ Cause words (bytes_at files) st

-- The command answers as asked; or there was no memory.
abbrev pub IsCompleted : Command → Status → Type 0
IsCompleted command answer = IsAsAsked command answer ⊎ (answer ≡ answers.NoMemory)

-- An audit answers yes or no; or there was no memory.
abbrev pub IsDecided : Status → Type 0
IsDecided answer = (answer ≡ answers.Accepted) ⊎ (answer ≡ answers.No) ⊎ (answer ≡ answers.NoMemory)

-- the words ask for an audit of a settled family
pub record AsksOfSettled (words : List (List ℕ)) (files : Files) : Type 0 where
  pub asking : Asking words (bytes_at files)
  pub audits : AsksVerdictOf words (bytes_at files) asking.query
  pub settled : SettledIn asking.accepted.world asking.accepted.state (members_of words (bytes_at files) asking)
