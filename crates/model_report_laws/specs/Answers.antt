-- What is proved of the answers: yes, no and undecided of an audit; of certificates and runs; and that what an audit prints is
-- accepted.
use Rattle.std.specs.Prelude.{◌≡◌, ◌≤◌, ◌⊎◌, ℕ, codes, length, List, [], ◌∷◌, ◌++◌, Some}
use Rattle.cm_base.specs.declared.limited.Limited.TheVariants as limit
use Rattle.cm_base.specs.declared.status.Status.TheVariants as status
use Rattle.cm_base.specs.Limited.{limit_number}
use Rattle.model_box.specs.Bounds.{BoxRow, bounds_hold}
use Rattle.model_box.specs.Laws.{tested}
use Rattle.model_box.specs.Meets.{Meets}
use Rattle.model_cert.specs.Written.{certificate_text}
use Rattle.model_confirm.specs.Causes.{EndsWithHolder}
use Rattle.model_cred.specs.Process.{Process}
use Rattle.model_cred.specs.Right.{Right}
use Rattle.model_plans.specs.PlanRun.{Found}
use Rattle.model_report.specs.Answer.{certificate_line, event_lines, run_lines, undecided_text}
use Rattle.model_report.specs.Causes.{AsksVerdict, IsAccepted}
use Rattle.model_report.specs.Command.{command_of, query_of, task_of}
use Rattle.model_report.specs.Given.{Gives}
use Rattle.model_report.specs.Judged.{Judged}
use Rattle.model_report.specs.Query.{Query}
use Rattle.model_report.specs.Replay.{ReportLine, Plain, at_line, text_of}
use Rattle.model_report.specs.Report.{report}
use Rattle.model_report.specs.Task.{Task, NoTask, ToJudge, ToCheck, ToConfirm}
use Rattle.model_run.specs.Family.{family}
use Rattle.model_run.specs.Never.{NeverHeld}
use Rattle.model_text.specs.Reading.{AtEnd, script_reading}
use Rattle.model_text.specs.Written.{placed_from}
use Rattle.model_verdict.specs.Blame.{Blame}
use Rattle.model_verdict.specs.InWorld.{ExcludedIn, OpenIn, SettledIn, FirstRunIn, BlameIn}
use Rattle.model_verdict.specs.Decides.{LeastIn}
use Rattle.model_verdict.specs.Rows.{AreBounds}

-- The words ask this query, whose log is accepted, about this right of the family of this process.
pub record Asking (words : List (List ℕ)) (bytes : List ℕ → List ℕ) : Type 0 where
  pub accepted : IsAccepted words bytes
  pub query : Query
  pub asked : query_of (command_of words) ≡ Some query
  pub process : Process
  pub right : Right
  pub asks : AsksVerdict query accepted.world accepted.state process right

-- the pids of the family that is asked about
abbrev pub members_of : (words : List (List ℕ)) (bytes : List ℕ → List ℕ) → Asking words bytes → List ℕ
members_of words bytes is = family is.accepted.state is.process.pid

-- ---- an audit's yes, and a certificate that holds
-- the task is to tell whether a right is gone for good: an audit, or the check of a certificate
abbrev pub AsksNever : Task → Type 0
AsksNever NoTask = ⊥
AsksNever (ToJudge q) = Unit {0}
AsksNever (ToCheck q text) = Unit {0}
AsksNever (ToConfirm q text) = ⊥

-- Some closed covering bounds exclude the right, and after no later run, of any length, does a member hold it.
pub record ShowsNever (words : List (List ℕ)) (bytes : List ℕ → List ℕ) : Type 0 where
  pub asking : Asking words bytes
  pub excluding : ExcludedIn asking.accepted.world asking.accepted.state (members_of words bytes asking) asking.right
  pub never : NeverHeld asking.accepted.world asking.accepted.state (members_of words bytes asking) asking.right

-- Where the status of an audit, or of the check of a certificate, is 0, the right is gone for good.
unfoldable pub YesIsNever : Type 0
YesIsNever =
    (words : List (List ℕ)) (bytes : List ℕ → List ℕ) (j : Judged) → Gives words bytes j
    → AsksNever (task_of (command_of words) bytes) → (report words bytes j).status ≡ status.Accepted → ShowsNever words bytes

-- The words ask for an audit.
abbrev pub AsksVerdictOf : List (List ℕ) → (List ℕ → List ℕ) → Query → Type 0
AsksVerdictOf words bytes q = task_of (command_of words) bytes ≡ ToJudge q

-- The rows are those of the least bounds that are closed and cover the family, which don't meet the right; and the last lines
-- of the report are `yes` and their certificate.
pub record ShowsLeast (words : List (List ℕ)) (bytes : List ℕ → List ℕ) (lines : List ReportLine) : Type 0 where
  pub asking : Asking words bytes
  pub rows : List BoxRow
  pub bounds : AreBounds asking.accepted.state.spaces rows
  pub least : LeastIn asking.accepted.world asking.accepted.state (members_of words bytes asking) (bounds_hold rows)
  pub apart : Meets asking.accepted.state.spaces (tested (bounds_hold rows)) asking.right → ⊥
  pub before : List ReportLine
  pub last : lines ≡ before ++ Plain (codes "yes") ∷ certificate_line rows ∷ []

-- Where an audit's status is 0, it prints the certificate of the least bounds.
unfoldable pub YesPrintsLeast : Type 0
YesPrintsLeast =
    (words : List (List ℕ)) (bytes : List ℕ → List ℕ) (j : Judged) (q : Query) → Gives words bytes j → AsksVerdictOf words bytes q
    → (report words bytes j).status ≡ status.Accepted → ShowsLeast words bytes (report words bytes j).lines

-- ---- no and undecided
-- No: what is found is the run of the first plan of the list that ends with a member who holds the right, a later run, and
-- its least holder. The last lines of the report show both.
pub record ShowsRun (words : List (List ℕ)) (bytes : List ℕ → List ℕ) (lines : List ReportLine) : Type 0 where
  pub asking : Asking words bytes
  pub found : Found
  pub run : FirstRunIn asking.accepted.world asking.accepted.state (members_of words bytes asking) asking.right found
  pub before : List ReportLine
  pub last : lines ≡ before ++ run_lines asking.accepted.world found

-- Undecided: all closed covering bounds meet the right, and no plan of the list ends with a holder; the family isn't
-- settled. The last lines tell the rule and the row by which the right comes into the bounds, or the start; and the
-- certificate of the bounds just before.
pub record ShowsBlame (words : List (List ℕ)) (bytes : List ℕ → List ℕ) (lines : List ReportLine) : Type 0 where
  pub asking : Asking words bytes
  pub neither : OpenIn asking.accepted.world asking.accepted.state (members_of words bytes asking) asking.right
  pub unsettled : SettledIn asking.accepted.world asking.accepted.state (members_of words bytes asking) → ⊥
  pub blame : Blame
  pub rows : List BoxRow
  pub bounds : AreBounds asking.accepted.state.spaces rows
  pub blamed : BlameIn asking.accepted.world asking.accepted.state (members_of words bytes asking) asking.right blame (bounds_hold rows)
  pub before : List ReportLine
  pub last : lines ≡ before ++ Plain (undecided_text asking.accepted.world.names asking.accepted.state.spaces blame) ∷ certificate_line rows ∷ []

-- Where the status is 1, it is no.
unfoldable pub NoIsRun : Type 0
NoIsRun =
    (words : List (List ℕ)) (bytes : List ℕ → List ℕ) (j : Judged) → Gives words bytes j
    → (report words bytes j).status ≡ status.No → ShowsRun words bytes (report words bytes j).lines

-- Where the status is 2, it is undecided.
unfoldable pub UndecidedIsOpen : Type 0
UndecidedIsOpen =
    (words : List (List ℕ)) (bytes : List ℕ → List ℕ) (j : Judged) → Gives words bytes j
    → (report words bytes j).status ≡ status.Undecided → ShowsBlame words bytes (report words bytes j).lines

-- What is asked of a settled family is never undecided.
unfoldable pub SettledIsDecided : Type 0
SettledIsDecided =
    (words : List (List ℕ)) (bytes : List ℕ → List ℕ) (j : Judged) (is : Asking words bytes) → Gives words bytes j
    → SettledIn is.accepted.world is.accepted.state (members_of words bytes is) → (report words bytes j).status ≡ status.Undecided → ⊥

-- The bytes of the run's lines, read as a script log in the world, are the run: its events, in their order, and nothing else.
unfoldable pub RunReadsBack : Type 0
RunReadsBack =
    (words : List (List ℕ)) (bytes : List ℕ → List ℕ) (lines : List ReportLine) (shows : ShowsRun words bytes lines)
    → script_reading shows.asking.accepted.world (text_of (event_lines shows.asking.accepted.world shows.found.run))
    ≡ record { events = placed_from 1 shows.found.run; ending = AtEnd }

-- ---- runs that are put forward
-- The bytes are a later run of the family, within the limits, at whose end the process of this pid holds the right, and no
-- member with a lesser pid does. The report is the line that says so.
pub record ShowsHolder (words : List (List ℕ)) (bytes : List ℕ → List ℕ) (text : List ℕ) (lines : List ReportLine) : Type 0 where
  pub asking : Asking words bytes
  pub pid : ℕ
  pub ends : EndsWithHolder asking.accepted.world asking.accepted.state (members_of words bytes asking) asking.right
      (script_reading asking.accepted.world text) pid
  pub only : lines ≡ Plain (at_line (codes "confirmed ") pid) ∷ []

-- Where the status of a confirmation is 0, it is so.
unfoldable pub ConfirmedIsRun : Type 0
ConfirmedIsRun =
    (words : List (List ℕ)) (bytes : List ℕ → List ℕ) (j : Judged) (q : Query) (text : List ℕ) → Gives words bytes j
    → task_of (command_of words) bytes ≡ ToConfirm q text → (report words bytes j).status ≡ status.Accepted
    → ShowsHolder words bytes text (report words bytes j).lines

-- Where it is refused, the bytes are no such run, whoever were the holder.
unfoldable pub RefusedIsNoRun : Type 0
RefusedIsNoRun =
    (words : List (List ℕ)) (bytes : List ℕ → List ℕ) (j : Judged) (q : Query) (text : List ℕ) → Gives words bytes j
    → task_of (command_of words) bytes ≡ ToConfirm q text → (report words bytes j).status ≡ status.Refused
    → (asking : Asking words bytes)
    × ((pid : ℕ) → EndsWithHolder asking.accepted.world asking.accepted.state (members_of words bytes asking) asking.right
    (script_reading asking.accepted.world text) pid → ⊥)

-- ---- what an audit prints is accepted
-- the words of an audit, of the check of a certificate, and of the confirmation of a run
abbrev pub audit_of : (world log pid right : List ℕ) → List (List ℕ)
audit_of world log pid right = codes "audit" ∷ world ∷ log ∷ pid ∷ right ∷ []

abbrev pub check_of : (world log pid right certificate : List ℕ) → List (List ℕ)
check_of world log pid right certificate = codes "check" ∷ world ∷ log ∷ pid ∷ right ∷ certificate ∷ []

abbrev pub confirming : (world log pid right run : List ℕ) → List (List ℕ)
confirming world log pid right run = codes "confirm" ∷ world ∷ log ∷ pid ∷ right ∷ run ∷ []

-- The files hold what the others hold under these two names.
pub record SameFiles (bytes other : List ℕ → List ℕ) (world log : List ℕ) : Type 0 where
  pub same_world : other world ≡ bytes world
  pub same_log : other log ≡ bytes log

-- The bytes are the certificate of the rows: its line in a report, with the LF that ends the line or without.
abbrev pub IsCertificateOf : List BoxRow → List ℕ → Type 0
IsCertificateOf rows bytes = (bytes ≡ text_of (certificate_line rows ∷ [])) ⊎ (bytes ≡ certificate_text rows)

-- The line after `yes`, as a file of its own, is a certificate that holds, whether the file ends with its LF or not: over the
-- same world, log, pid and right, where it is within its limit.
unfoldable pub PrintedCertificateHolds : Type 0
PrintedCertificateHolds =
    (bytes other : List ℕ → List ℕ) (world log pid right certificate : List ℕ) (j k : Judged)
    → Gives (check_of world log pid right certificate) other k → SameFiles bytes other world log
    → (shows : ShowsLeast (audit_of world log pid right) bytes (report (audit_of world log pid right) bytes j).lines)
    → IsCertificateOf shows.rows (other certificate) → length (other certificate) ≤ limit_number limit.Certificate
    → report (check_of world log pid right certificate) other k
    ≡ record { status = status.Accepted; lines = Plain (codes "holds") ∷ [] }

-- The lines after `no COUNT` but the last, as a file of their own, are a run that is confirmed, with the holder that is
-- printed: over the same world, log, pid and right, where they are within their limit.
unfoldable pub PrintedRunIsConfirmed : Type 0
PrintedRunIsConfirmed =
    (bytes other : List ℕ → List ℕ) (world log pid right run : List ℕ) (j k : Judged)
    → Gives (confirming world log pid right run) other k → SameFiles bytes other world log
    → (shows : ShowsRun (audit_of world log pid right) bytes (report (audit_of world log pid right) bytes j).lines)
    → other run ≡ text_of (event_lines shows.asking.accepted.world shows.found.run) → length (other run) ≤ limit_number limit.Run
    → report (confirming world log pid right run) other k
    ≡ record { status = status.Accepted; lines = Plain (at_line (codes "confirmed ") shows.found.holder) ∷ [] }
