-- The headline, which the top call carries as one clause. It is said of the words of a command; of what the shelf tells
-- that it holds, where it tells it, a name that isn't held standing for no bytes; of the answer; of what the sink tells
-- was written before and after, where it tells it; and of the counts of faults before and after, of reads by names, and
-- of writes.
--
-- In one sentence: replay prints, up to the first impossible line, which it names, the credentials of the rules; an
-- audit's yes means that no later calls by the process and its descendants, however interleaved, let one of them hold
-- the right; its no prints a run that ends so; undecided comes only where every invariant of box form meets the right
-- and no listed plan reaches it, so never for a settled family.
--
-- Impossible line: that of the first event that is no step from the state which the events before it lead to; the
-- rules' own answer, or the reason, is printed with it. The rules are the profile of the manual pages that
-- docs/RULES.md tells, with its marked choices. Later calls: a run of any length from the state at the log's end, each
-- event a step of one who is a member at that point, of a kind that the world's filter permits, and the filters that
-- the caller has installed or inherited by then; the family is the process and all whose forebears reach it, a child of
-- a member comes to it, and who exits goes. However interleaved:
-- an event is one completed call of one process, and their order is free. Let one hold: a member at the run's end holds
-- the right; the run may be empty, so the present moment is included. The run that no prints is that of the first plan
-- of the list which ends with a holder, with the least such pid. Invariant of box form: bounds, fifteen sets for each
-- row of a space, that cover the family now and are closed under the fourteen rules for the calls that the world's
-- filter permits, and the own filter of some member at the log's end. Meets the right: a row of the bounds has what
-- holding the right takes. Settled family: its members have no capability, in spaces whose maps are written; the
-- world's filter, or those of all members, exclude the calls that make and join spaces; programs give it nothing; and
-- all its members have equal filters.
--
-- The premises: the shelf tells its bytes; no read or write failed, and memory was found; words, world, log and query
-- are within the grammars and the limits; after the log only the family acts, under the declared filter and the filters
-- that they have installed; and files and mounts stay as declared.
use Rattle.std.specs.Prelude.{◌≡◌, ℕ, Bool, List, Option, IfSome}
use Rattle.cm_base.specs.declared.status.Status.{Status}
use Rattle.cm_base.specs.declared.status.Status.TheVariants as answers
use Rattle.cm_cli.specs.Answers.{AnswersReport, CountsReads, report_over}
use Rattle.cm_cli.specs.BeforeFault.{WritesBeforeFault}
use Rattle.cm_io.specs.Shelf.{Files, bytes_at}
use Rattle.cm_report.specs.Telling.{CountsWrites}
use Rattle.model_report.specs.Causes.{IsAccepted, IsDrill, IsImpossible}
use Rattle.model_report.specs.Command.{command_of, task_of}
use Rattle.model_report.specs.Given.{Gives}
use Rattle.model_report.specs.Judged.{Judged}
use Rattle.model_report.specs.Query.{Query}
use Rattle.model_report.specs.Replay.{ReportLine}
use Rattle.model_report.specs.Task.{ToConfirm}
use Rattle.model_report_laws.specs.Answers.{AsksNever, AsksVerdictOf, ShowsBlame, ShowsHolder, ShowsLeast, ShowsNever}
use Rattle.model_report_laws.specs.Answers.{ShowsRun}
use Rattle.model_report_laws.specs.Laws.{IsShown, Shows}
use Rattle.model_run.specs.Step.{Run}
use Rattle.model_text.specs.Reading.{events_of}

-- there is something judged that the words and the files give
abbrev pub Judgement : List (List ℕ) → Files → Type 0
Judgement words files = (j : Judged) × Gives words (bytes_at files) j

-- this holds of the lines of the report, whatever they give to be judged
abbrev pub OfLines : List (List ℕ) → Files → (List ReportLine → Type 0) → Type 0
OfLines words files Holds = (j : Judged) → Gives words (bytes_at files) j → Holds (report_over words files j).lines

-- What acceptance says of an audit, and of the check of a certificate: after no later list of calls, of any length,
-- does a member of the family hold the right. An audit's last lines are `yes` and the certificate of the least bounds.
-- And of the confirmation of a run: it is a later run, after which the member that is printed holds the right, and no
-- lesser one.
pub record SaysYes (words : List (List ℕ)) (files : Files) : Type 0 where
  pub never : AsksNever (task_of (command_of words) (bytes_at files)) → ShowsNever words (bytes_at files)
  pub given : Judgement words files
  pub least : (q : Query) → AsksVerdictOf words (bytes_at files) q
      → OfLines words files (ShowsLeast words (bytes_at files))
  pub confirmed : (q : Query) (text : List ℕ) → task_of (command_of words) (bytes_at files) ≡ ToConfirm q text
      → OfLines words files (ShowsHolder words (bytes_at files) text)

-- What no says: there is something that the words and the files give; and with whatever they give, the first plan's run
-- that ends with a holder is a later run, and the last lines of the report show it, with its least holder.
pub record SaysNo (words : List (List ℕ)) (files : Files) : Type 0 where
  pub given : Judgement words files
  pub shows : OfLines words files (ShowsRun words (bytes_at files))

-- What undecided says: the same, and all closed covering bounds meet the right, no plan ends with a holder, and the
-- family isn't settled.
pub record SaysUndecided (words : List (List ℕ)) (files : Files) : Type 0 where
  pub given : Judgement words files
  pub shows : OfLines words files (ShowsBlame words (bytes_at files))

-- The log is accepted: its events are a run from the world's state, and the credentials that are printed last are those
-- of the state that it leads to, where the replay is shown.
pub record ReplaysAll (words : List (List ℕ)) (files : Files) : Type 0 where
  pub is : IsAccepted words (bytes_at files)
  pub run : Run is.world is.world.start (events_of is.comes.events) is.state
  pub shows : IsShown words (bytes_at files) → OfLines words files (λ lines. Shows lines is.state)

-- An event of the log is impossible: those before it are such a run, and it is no step from there.
pub record ReplaysUpTo (words : List (List ℕ)) (files : Files) : Type 0 where
  pub is : IsImpossible words (bytes_at files)
  pub run : Run is.world is.world.start (events_of is.before) is.state
  pub shows : IsShown words (bytes_at files) → OfLines words files (λ lines. Shows lines is.state)

-- What the answers mean: of an accepted log, of an impossible one, and of yes, no and undecided.
pub record Meaning (words : List (List ℕ)) (files : Files) (answer : Status) : Type 0 where
  pub replays : answer ≡ answers.Accepted → ¬ IsDrill words → ReplaysAll words files
  pub impossible : answer ≡ answers.Impossible → ReplaysUpTo words files
  pub yes : answer ≡ answers.Accepted → SaysYes words files
  pub no : answer ≡ answers.No → SaysNo words files
  pub undecided : answer ≡ answers.Undecided → SaysUndecided words files

-- The headline.
pub record Headline (held : Option Files) (counted : List ℕ → Bool) (words : List (List ℕ)) (answer : Status)
    (written written' : Option (List ℕ)) (reads reads' : List ℕ → ℕ) (writes writes' : ℕ) : Type 0 where
  -- Where the shelf tells what it holds, the status is that of the report, and its text is written: all of it with the
  -- status of a report, a front of it with a fault or out of memory. Words of no form give the usage, and no other
  -- words do.
  pub report : AnswersReport held (command_of words) answer written written'
  -- A fault of reading comes only where the count of a file rose that the words name, and where nothing is refused of
  -- what is read before it; with any other answer no count of reads rose.
  pub read_faults : CountsReads held (command_of words) answer reads reads'
  -- A fault of writing comes only where the sink's count rose; with any other answer it didn't.
  pub write_faults : CountsWrites answer writes writes'
  -- Before a fault of reading nothing is written where it was the world's, or no replay is shown; the lines at the
  -- start, at the least, where it was the log's.
  pub before_fault : WritesBeforeFault held counted (command_of words) answer reads reads' written written'
  -- What the report's status means: there is something that the words and the files give, and with whatever they give
  -- it is so.
  pub means : IfSome held (λ files. Meaning words files answer)
