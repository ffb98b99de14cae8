-- That valid input without faults is answered as asked, or memory ran out; and what the answers say.
use Rattle.std.proofs.Common.{◌≡◌, ◌≢◌, ◌⊎◌, ℕ, List, [], ◌∷◌, inl, inr, arith, refl, sym, subst, ◌∙◌}
use Rattle.cm_base.specs.declared.limited.Limited.{Limited}
use Rattle.cm_base.specs.declared.status.Status.{Status}
use Rattle.cm_base.specs.declared.status.Status.TheVariants as answers
use Rattle.cm_cli.specs.Answers.{report_over, AsksOfSettled, ComesByCause, IsCompleted, IsDecided, IsValid, NoneRose}
use Rattle.cm_cli.specs.Headline.{Judgement, Meaning, ReplaysAll, ReplaysUpTo, SaysNo, SaysUndecided, SaysYes}
use Rattle.cm_cli.specs.Reading.{AnyRose}
use Rattle.cm_io.specs.Shelf.{Files, bytes_at, Rose}
use Rattle.cm_report.proofs.Told.{of_report}
use Rattle.cm_report.specs.Telling.{IsOfReport}
use Rattle.model_cred.specs.Process.{State}
use Rattle.model_report.specs.Causes.{IsDrill}
use Rattle.model_report.specs.Command.{Audit, Command, command_of, files_of, task_of}
use Rattle.model_report.specs.Given.{Gives}
use Rattle.model_report.specs.Judged.{Judged}
use Rattle.model_report.specs.Query.{Query}
use Rattle.model_report.specs.Replay.{Report}
use Rattle.model_report.specs.Task.{ToJudge}
use Rattle.model_report_laws.proofs.Audits.{confirmed_is_run, no_is_run, settled_is_decided, undecided_is_open}
use Rattle.model_report_laws.proofs.Audits.{yes_is_never, yes_prints_least}
use Rattle.model_report_laws.proofs.Endings.{accepted_is_run, impossible_is_no_step}
use Rattle.model_report_laws.proofs.Given.{judged_is_given, report_is_one}
use Rattle.model_report_laws.proofs.Complete.{valid_is_answered}
use Rattle.model_report_laws.proofs.Statuses.{each_by_its_cause}
use Rattle.model_report_laws.specs.Answers.{ConfirmedIsRun, NoIsRun, SettledIsDecided, UndecidedIsOpen, YesIsNever}
use Rattle.model_report_laws.specs.Answers.{YesPrintsLeast}
use Rattle.model_report_laws.specs.Laws.{AcceptedIsRun, EachByItsCause, ImpossibleIsNoStep, IsAsAsked, JudgedIsGiven}
use Rattle.model_report_laws.specs.Laws.{ReportIsOne, Shows, ValidIsAnswered}

-- The answer is the report's status, with whatever is given to be judged, where it is that of a report.
abbrev pub IsReported : List (List ℕ) → Files → Status → Type 0
IsReported words files answer =
    (j : Judged) → Gives words (bytes_at files) j → IsOfReport answer → answer ≡ (report_over words files j).status

-- no count rose that is always 0
never_rose : ¬ Rose 0 0
never_rose (inl less) = omega (arith, less)
never_rose (inr last) = omega (arith, last)

pub none_rose : (files : List (List ℕ × Limited)) → ¬ AnyRose files (λ n. 0) (λ n. 0)
none_rose [] rose = rose
none_rose (file ∷ files) (inl rose) = never_rose rose
none_rose (file ∷ files) (inr rose) = none_rose files rose

pub none_rose_surely : (files : List (List ℕ × Limited)) → NoneRose files (λ n. 0) (λ n. 0) 0 0
none_rose_surely files = record { reads_same = none_rose files; writes_same = never_rose }

wants_memory : (answer : Status) → (answer ≡ answers.NoMemory) ⊎ (answer ≢ answers.NoMemory)
wants_memory answers.NoMemory = inl refl
wants_memory _ = inr (λ e. cc)

-- an audit that is answered as asked, and not left open, is decided
audit_decided : (command : Command) (bytes : List ℕ → List ℕ) (q : Query) (answer : Status)
    → task_of command bytes ≡ ToJudge q
    → IsAsAsked command answer → answer ≢ answers.Undecided → IsDecided answer
audit_decided (Audit world log pid right) bytes q answer is (inl first) open_ = inl first
audit_decided (Audit world log pid right) bytes q answer is (inr (inl second)) open_ = inr (inl second)
audit_decided (Audit world log pid right) bytes q answer is (inr (inr third)) open_ = absurd (open_ third)
audit_decided _ bytes q answer is asked open_ = absurd (cc)

module _ (words : List (List ℕ)) (files : Files) where
  given : Judgement words files
  unfolding JudgedIsGiven
  given = judged_is_given words (bytes_at files)

  -- the answer's cause, from its being the report's status
  pub by_cause : (answer : Status) → IsReported words files answer → IsOfReport answer → ComesByCause words files answer
  unfolding EachByItsCause
  by_cause answer is tells st = rw (is given.0 given.1 tells)
      (each_by_its_cause words (bytes_at files) given.0 st given.1)

  -- valid input is answered as asked
  as_asked : (answer : Status) → IsReported words files answer → IsOfReport answer → IsValid words (bytes_at files)
      → IsAsAsked (command_of words) answer
  unfolding ValidIsAnswered
  as_asked answer is tells valid =
      subst (IsAsAsked (command_of words)) (sym (is given.0 given.1 tells))
      (valid_is_answered words (bytes_at files) given.0 given.1 valid)

module _ (words : List (List ℕ)) (files : Files) (answer : Status) (reads reads' : List ℕ → ℕ) (writes writes' : ℕ)
    (is : IsReported words files answer)
    (read : answer ≡ answers.ReadFault → AnyRose (files_of (command_of words)) reads reads')
    (write : answer ≡ answers.WriteFault → Rose writes writes')
    (valid : IsValid words (bytes_at files)) (none : NoneRose (files_of (command_of words)) reads reads' writes writes') where
  tells : answer ≢ answers.NoMemory → IsOfReport answer
  tells not =
      of_report answer (λ fault. none.reads_same (read fault))
      (λ fault. none.writes_same (write fault)) not

  -- valid input where no fault was counted is completed
  pub completed : IsCompleted (command_of words) answer
  completed = elim (wants_memory answer) [
    | inl same ↦ inr same
    | inr not ↦ inl (as_asked words files answer is (tells not) valid)
  ]

  -- and decided, of a settled family
  pub decided : AsksOfSettled words files → IsDecided answer
  unfolding SettledIsDecided
  decided asks = elim (wants_memory answer) [
    | inl same ↦ inr (inr same)
    | inr not ↦
        audit_decided (command_of words) (bytes_at files) asks.asking.query answer asks.audits
        (as_asked words files answer is (tells not) valid)
        (λ left. settled_is_decided words (bytes_at files) (given words files).0 asks.asking
        (given words files).1 asks.settled
        (sym (is (given words files).0 (given words files).1 (tells not)) ∙ left))
  ]

-- ---- what an answer says, where it is the report's status
module _ (words : List (List ℕ)) (files : Files) (answer : Status) (is : IsReported words files answer) where
  said : (st : Status) → IsOfReport st → answer ≡ st → (j : Judged) → Gives words (bytes_at files) j
      → (report_over words files j).status ≡ st
  said st tells same j gives = sym (is j gives (subst IsOfReport (sym same) tells)) ∙ same

  accepted : answer ≡ answers.Accepted → (j : Judged) → Gives words (bytes_at files) j
      → (report_over words files j).status ≡ answers.Accepted
  accepted same j gives = said answers.Accepted (of_report answers.Accepted (λ e. cc) (λ e. cc) (λ e. cc)) same j gives

  pub says_yes : answer ≡ answers.Accepted → SaysYes words files
  unfolding YesIsNever YesPrintsLeast ConfirmedIsRun
  says_yes same = record {
    never = λ asks.
        yes_is_never words (bytes_at files) (given words files).0 (given words files).1 asks
        (accepted same (given words files).0 (given words files).1);
    given = given words files;
    least = λ q asked j gives. yes_prints_least words (bytes_at files) j q gives asked (accepted same j gives);
    confirmed = λ q text asked j gives. confirmed_is_run words (bytes_at files) j q text gives asked
        (accepted same j gives);
  }

  pub says_no : answer ≡ answers.No → SaysNo words files
  unfolding NoIsRun
  says_no same = record {
    given = given words files;
    shows = λ j gives.
        no_is_run words (bytes_at files) j gives
        (said answers.No (of_report answers.No (λ e. cc) (λ e. cc) (λ e. cc)) same j gives);
  }

  pub says_undecided : answer ≡ answers.Undecided → SaysUndecided words files
  unfolding UndecidedIsOpen
  says_undecided same = record {
    given = given words files;
    shows = λ j gives.
        undecided_is_open words (bytes_at files) j gives
        (said answers.Undecided (of_report answers.Undecided (λ e. cc) (λ e. cc) (λ e. cc)) same j gives);
  }

  -- what is shown of one report is shown of each
  shown_by_all : (s : State) → Shows (report_over words files (given words files).0).lines s
      → (j : Judged) → Gives words (bytes_at files) j → Shows (report_over words files j).lines s
  unfolding ReportIsOne
  shown_by_all s shows j gives =
      subst (λ (r : Report). Shows r.lines s)
      (report_is_one words (bytes_at files) (given words files).0 j (given words files).1 gives) shows

  replays : answer ≡ answers.Accepted → ¬ IsDrill words → ReplaysAll words files
  unfolding AcceptedIsRun
  replays same drill =
      let all = accepted_is_run words (bytes_at files) (given words files).0 (given words files).1 drill
      (accepted same (given words files).0 (given words files).1) in
      record { is = all.0; run = all.1; shows = λ shown j gives. shown_by_all all.0.state (all.2 shown) j gives }

  replays_up_to : answer ≡ answers.Impossible → ReplaysUpTo words files
  unfolding ImpossibleIsNoStep
  replays_up_to same =
      let up = impossible_is_no_step words (bytes_at files) (given words files).0 (given words files).1
      (said answers.Impossible (of_report answers.Impossible (λ e. cc) (λ e. cc) (λ e. cc)) same (given words files).0
      (given words files).1) in
      record { is = up.0; run = up.1; shows = λ shown j gives. shown_by_all up.0.state (up.2 shown) j gives }

  pub meaning : Meaning words files answer
  meaning = record {
    replays = replays;
    impossible = replays_up_to;
    yes = says_yes;
    no = says_no;
    undecided = says_undecided;
  }
