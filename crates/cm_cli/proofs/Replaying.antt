-- What the replay of a log in a world answers, with what is asked after it.
use Rattle.std.proofs.Common.{◌≡◌, ◌≢◌, ℕ, List, [], ◌∷◌, Option, None, Some, subst, refl, sym, ap, ◌∙◌, inl, inr}
use Rattle.std.specs.Prelude.{IfSome}
use Rattle.std.proofs.lemmas.Option.{IfSome_then}
use Rattle.cm_base.specs.declared.limited.Limited.TheVariants as limit
use Rattle.cm_base.specs.declared.status.Status.{Status}
use Rattle.cm_base.specs.declared.status.Status.TheVariants as answers
use Rattle.cm_cli.specs.Answers.{AnswersReport, IsUsageAnswer}
use Rattle.cm_cli.specs.Claims.{IsLogAnswer}
use Rattle.cm_cli.specs.LogReport.{TellsLog}
use Rattle.cm_cli.specs.Query.{file_of, limit_of, query_view, task_by, task_view}
use Rattle.cm_cli.specs.Words.{asking, claiming}
use Rattle.cm_cli.specs.declared.query.Claim.{Claim}
use Rattle.cm_cli.specs.declared.query.ClaimKind.{ClaimKind}
use Rattle.cm_cli.specs.declared.query.ClaimKind.TheVariants as kind
use Rattle.cm_cli.specs.declared.query.Task.{Task}
use Rattle.cm_cli.specs.declared.query.Task.TheVariants as task
use Rattle.cm_io.specs.Shelf.{Files, bytes_at}
use Rattle.cm_replay.proofs.Held.{always}
use Rattle.cm_replay.specs.Coming.{IsReplayAnswer}
use Rattle.cm_report.proofs.Told.{of_report}
use Rattle.cm_report.proofs.Waiting.{all_waits}
use Rattle.cm_report.specs.Telling.{IsOfReport, TellsReport, short_report}
use Rattle.cm_report.specs.declared.short.Short.{Short}
use Rattle.cm_report.specs.declared.short.Short.TheVariants as short
use Rattle.model_report.specs.Command.{NoForm, files_of, query_of}
use Rattle.model_report.specs.Given.{FilesGive, CommandGives}
use Rattle.model_report.specs.Judged.{Judged}
use Rattle.model_report.specs.Replay.{Report}
use Rattle.model_report.specs.Report.{command_report, files_report}

-- and from three
pub if_three : {T : Type 0} {P Q R S : T → Type 0} (o : Option T) → IfSome o P → IfSome o Q → IfSome o R
    → ((x : T) → P x → Q x → R x → S x) → IfSome o S
if_three None p q r f = tt
if_three (Some x) p q r f = f x p q r

-- what is told only where something holds
pub in_order : (P : Type 0) (Q : Files → Type 0) (o : Option Files) → (P → IfSome o Q) → IfSome o (λ files. P → Q files)
in_order P Q None f = tt
in_order P Q (Some files) f = f

-- no report of one piece but the usage has its status
pub short_not_usage : (why : Short) → why ≢ short.Usage → (short_report why).status ≢ answers.Usage
short_not_usage short.Usage not is = not refl
short_not_usage (short.BadWorld table row why) not is = cc
short_not_usage (short.Limit limit) not is = cc

-- an answer of a log is that of a report, and no usage
pub log_answer : (st : Status) → IsLogAnswer st → IsOfReport st × (st ≢ answers.Usage)
log_answer answers.Accepted is = (of_report answers.Accepted (λ e. cc) (λ e. cc) (λ e. cc), λ e. cc)
log_answer answers.No is = (of_report answers.No (λ e. cc) (λ e. cc) (λ e. cc), λ e. cc)
log_answer answers.Undecided is = (of_report answers.Undecided (λ e. cc) (λ e. cc) (λ e. cc), λ e. cc)
log_answer answers.Impossible is = (of_report answers.Impossible (λ e. cc) (λ e. cc) (λ e. cc), λ e. cc)
log_answer answers.BadLog is = (of_report answers.BadLog (λ e. cc) (λ e. cc) (λ e. cc), λ e. cc)
log_answer answers.Limit is = (of_report answers.Limit (λ e. cc) (λ e. cc) (λ e. cc), λ e. cc)
log_answer answers.Refused is = (of_report answers.Refused (λ e. cc) (λ e. cc) (λ e. cc), λ e. cc)
log_answer answers.BadQuery is = (of_report answers.BadQuery (λ e. cc) (λ e. cc) (λ e. cc), λ e. cc)
log_answer _ never = absurd never

-- the answer of a replay is that of a log
pub replay_answer : (st : Status) → IsReplayAnswer st → IsLogAnswer st
replay_answer answers.Accepted is = tt
replay_answer answers.Impossible is = tt
replay_answer answers.BadLog is = tt
replay_answer answers.Limit is = tt
replay_answer _ never = absurd never

-- ---- the words of no form
-- the answer that tells a report of the usage
usage_answer : (answer : Status) → (IsOfReport answer → answer ≡ answers.Usage) → answer ≢ answers.ReadFault
    → IsUsageAnswer answer
usage_answer answers.WriteFault told fine = inr (inl refl)
usage_answer answers.NoMemory told fine = inr (inr refl)
usage_answer answers.ReadFault told fine = absurd (fine refl)
usage_answer _ told fine = inl (told (of_report _ (λ e. cc) (λ e. cc) (λ e. cc)))

pub usage_answers : (held : Option Files) (answer : Status) (w w' : Option (List ℕ)) (f f' : ℕ)
    → TellsReport (short_report short.Usage) answer w w' f f' → AnswersReport held NoForm answer w w'
usage_answers held answer w w' f f' told = record {
  status = always held (λ files j gives is. told.status is);
  text = always held (λ files j gives. record { whole = told.text; front = told.front });
  usage = λ _. refl;
  no_form = λ _. usage_answer answer told.status told.never_read_fault;
}

-- ---- the command that asks after a log
claiming_has_form : (k : ClaimKind) (claim : Claim) (world log : List ℕ)
    → claiming k claim.query world log claim.file.now ≢ NoForm
claiming_has_form kind.Certificate claim world log is = cc
claiming_has_form kind.Run claim world log is = cc

asking_has_form : (t : Task) (world log : List ℕ) → asking t world log ≢ NoForm
asking_has_form task.Nothing world log is = cc
asking_has_form (task.Judge q) world log is = cc
asking_has_form (task.Claims claim) world log is = claiming_has_form claim.kind claim world log is

-- its report
claiming_report : (k : ClaimKind) (claim : Claim) (world log : List ℕ) (bytes : List ℕ → List ℕ) (j : Judged)
    → command_report (claiming k claim.query world log claim.file.now) bytes j
    ≡ files_report (task_by k (query_view claim.query) (bytes claim.file.now)) j (bytes world) (bytes log)
claiming_report kind.Certificate claim world log bytes j = refl
claiming_report kind.Run claim world log bytes j = refl

asking_report : (t : Task) (world log : List ℕ) (bytes : List ℕ → List ℕ) (j : Judged)
    → command_report (asking t world log) bytes j ≡ files_report (task_view t bytes) j (bytes world) (bytes log)
asking_report task.Nothing world log bytes j = refl
asking_report (task.Judge q) world log bytes j = refl
asking_report (task.Claims claim) world log bytes j = claiming_report claim.kind claim world log bytes j

-- its files
claiming_names : (k : ClaimKind) (claim : Claim) (world log : List ℕ)
    → files_of (claiming k claim.query world log claim.file.now)
    ≡ (world, limit.World) ∷ (log, limit.Log) ∷ (claim.file.now, limit_of k) ∷ []
claiming_names kind.Certificate claim world log = refl
claiming_names kind.Run claim world log = refl

pub asking_names : (t : Task) (world log : List ℕ)
    → files_of (asking t world log) ≡ (world, limit.World) ∷ (log, limit.Log) ∷ file_of t
asking_names task.Nothing world log = refl
asking_names (task.Judge q) world log = refl
asking_names (task.Claims claim) world log = claiming_names claim.kind claim world log

pub claiming_query : (k : ClaimKind) (claim : Claim) (world log : List ℕ)
    → query_of (claiming k claim.query world log claim.file.now) ≡ Some (query_view claim.query)
claiming_query kind.Certificate claim world log = refl
claiming_query kind.Run claim world log = refl

-- what its files give
claiming_gives : (k : ClaimKind) (claim : Claim) (world log : List ℕ) (bytes : List ℕ → List ℕ) (j : Judged)
    → CommandGives (claiming k claim.query world log claim.file.now) bytes j
    → FilesGive (task_by k (query_view claim.query) (bytes claim.file.now)) (bytes world) (bytes log) j
claiming_gives kind.Certificate claim world log bytes j gives = gives
claiming_gives kind.Run claim world log bytes j gives = gives

asking_gives : (t : Task) (world log : List ℕ) (bytes : List ℕ → List ℕ) (j : Judged)
    → CommandGives (asking t world log) bytes j → FilesGive (task_view t bytes) (bytes world) (bytes log) j
asking_gives task.Nothing world log bytes j gives = gives
asking_gives (task.Judge q) world log bytes j gives = gives
asking_gives (task.Claims claim) world log bytes j gives = claiming_gives claim.kind claim world log bytes j gives

-- ---- the report
-- What is told of files is their report, with whatever they give to be judged.
unfoldable pub TellsFiles : Task → Files → (world log : List ℕ) (answer : Status) (w w' : Option (List ℕ)) → Type 0
TellsFiles t files world log answer w w' =
    (j : Judged) → FilesGive (task_view t (bytes_at files)) (bytes_at files world) (bytes_at files log) j
    → TellsLog (files_report (task_view t (bytes_at files)) j (bytes_at files world) (bytes_at files log)) answer w w'

-- a report that is told is told of one that is equal
pub tells_as : (r r' : Report) (answer : Status) (w w' : Option (List ℕ)) → r' ≡ r → TellsLog r answer w w'
    → TellsLog r' answer w w'
tells_as r r' answer w w' same told = subst (λ (x : Report). TellsLog x answer w w') (sym same) told

-- one of one piece
pub as_told : (r : Report) (answer : Status) (w w' : Option (List ℕ)) (f f' : ℕ) → TellsReport r answer w w' f f'
    → TellsLog r answer w w'
as_told r answer w w' f f' told = record {
  status = told.status;
  text = record { whole = told.text; front = told.front };
}

-- an answer that tells a report other than the usage is no usage
pub told_not_usage : (r : Report) (answer : Status) (w w' : Option (List ℕ)) (f f' : ℕ) → TellsReport r answer w w' f f'
    → r.status ≢ answers.Usage → answer ≢ answers.Usage
told_not_usage r answer w w' f f' told other is =
    other (sym (told.status (subst IsOfReport (sym is) (of_report answers.Usage (λ e. cc) (λ e. cc) (λ e. cc)))) ∙ is)

-- the files were read or refused, and their report was told
pub log_answers : (held : Option Files) (t : Task) (world log : List ℕ) (answer : Status) (w w' : Option (List ℕ))
    → IfSome held (λ files. TellsFiles t files world log answer w w')
    → answer ≢ answers.Usage
    → AnswersReport held (asking t world log) answer w w'
unfolding TellsFiles
log_answers held t world log answer w w' told other = record {
  status = IfSome_then held told (λ files tells j gives is.
      (tells j (asking_gives t world log (bytes_at files) j gives)).status is
      ∙ ap (λ (r : Report). r.status) (sym (asking_report t world log (bytes_at files) j)));
  text = IfSome_then held told (λ files tells j gives.
      rw (asking_report t world log (bytes_at files) j)
      ((tells j (asking_gives t world log (bytes_at files) j gives)).text));
  usage = λ is. absurd (other is);
  no_form = λ is. absurd (asking_has_form t world log is);
}

-- an answer that is no report's, where nothing was written
pub unread_answers : (held : Option Files) (t : Task) (world log : List ℕ) (answer : Status) (w : Option (List ℕ))
    → (IsOfReport answer → ⊥) → answer ≢ answers.Usage → AnswersReport held (asking t world log) answer w w
unread_answers held t world log answer w none other = record {
  status = always held (λ files j gives is. absurd (none is));
  text = always held (λ files j gives. record { whole = λ is. absurd (none is); front = (_, all_waits w _) });
  usage = λ is. absurd (other is);
  no_form = λ is. absurd (asking_has_form t world log is);
}
