-- What the answers say: yes, no or undecided of an audit, a certificate that holds, and a run that is confirmed or refused, in
-- the state that the accepted log leads to.
use Rattle.std.proofs.Common.{◌≡◌, ℕ, Bool, false, inl, inr, List, [], Some, refl, sym, ◌∙◌, ap, subst}
use Rattle.cm_base.specs.declared.status.Status.{Status}
use Rattle.cm_base.specs.declared.status.Status.TheVariants as status
use Rattle.model_box.proofs.Stated.{exclusion}
use Rattle.model_box.proofs.Worlds.{state_fits}
use Rattle.model_box.specs.Bounds.{bounds_hold}
use Rattle.model_box.specs.Meets.{IsOverStanding}
use Rattle.model_confirm.proofs.Confirms.{confirms_later_runs, refuses_lines, refuses_ends, others_end_without}
use Rattle.model_confirm.specs.Causes.{EndsWithHolder}
use Rattle.model_confirm.specs.Confirm.{Confirms, RefusesLine, RefusesEnd, confirm_of}
use Rattle.model_confirm.specs.Laws.{ConfirmsLaterRuns, RefusesLines, RefusesEnds, OthersEndWithout}
use Rattle.model_cred.specs.Process.{Process, State}
use Rattle.model_cred.specs.Right.{Right}
use Rattle.model_cred.specs.World.{World}
use Rattle.model_plans.proofs.Holders.{family_ascends}
use Rattle.model_plans.specs.Firsts.{PidsAscend, FamilyAscends}
use Rattle.model_report.proofs.Answers.{of_asked}
use Rattle.model_report.specs.Answer.{answer, verdict_report}
use Rattle.model_report.specs.Causes.{AsksVerdict, AfterLog, Cause, IsAccepted, IsDone, IsAnsweredNo, IsLeftOpen, IsRefused, IsNo, IsUndecided}
use Rattle.model_report.specs.Causes.{IsConfirmed, RunRefused, OfFamily, at_its_line, at_its_end}
use Rattle.model_report.specs.Command.{Command, Replay, command_of, query_of, task_of}
use Rattle.model_report.specs.Given.{StateGives, Gives}
use Rattle.model_report.specs.Judged.{Judged}
use Rattle.model_report.specs.Query.{Query}
use Rattle.model_report.specs.Replay.{Report, ReportLine, after, silenced}
use Rattle.model_report.specs.Report.{report, replay_of, shown, shows}
use Rattle.model_report.specs.Task.{Task, NoTask, ToJudge, ToCheck, ToConfirm, query_in}
use Rattle.model_report.specs.Told.{Told, TellsNo, TellsYes, TellsUndecided, IsVerdictOn}
use Rattle.model_report_laws.proofs.Answering.{Fits, confirms_so}
use Rattle.model_report_laws.proofs.Endings.{caused}
use Rattle.model_report_laws.proofs.Statuses.{accepted_fits, gives_after, of_accepted, replay_accepted, whole}
use Rattle.model_report_laws.specs.Answers.{Asking, members_of, AsksNever, ShowsNever, YesIsNever, ShowsLeast, YesPrintsLeast}
use Rattle.model_report_laws.specs.Answers.{ShowsRun, NoIsRun, ShowsBlame, UndecidedIsOpen, SettledIsDecided, ShowsHolder, ConfirmedIsRun, RefusedIsNoRun}
use Rattle.model_run.specs.Family.{family}
use Rattle.model_run.specs.Never.{NeverHeld}
use Rattle.model_text.specs.Reading.{script_reading}
use Rattle.model_verdict.proofs.InWorlds.{no_is_first_run}
use Rattle.model_verdict.proofs.Verdicts.{undecided_exactly, undecided_is_unsettled}
use Rattle.model_verdict.specs.InWorld.{ExcludedIn, SettledIn, NoIsFirstRun}
use Rattle.model_verdict.specs.Verdict.{UndecidedExactly, UndecidedIsUnsettled}

-- a task has the query of its command
pub query_of_task : (command : Command) (bytes : List ℕ → List ℕ) → query_of command ≡ query_in (task_of command bytes)
query_of_task (Replay world log) bytes = refl
query_of_task _ bytes = refl

module _ (words : List (List ℕ)) (bytes : List ℕ → List ℕ) where
  abbrev the_task : Task
  the_task = task_of (command_of words) bytes

  abbrev asked_so : (is : IsAccepted words bytes) (q : Query) (p : Process) (right : Right) → query_in the_task ≡ Some q
      → AsksVerdict q is.world is.state p right → Asking words bytes
  asked_so is q p right asked asks = record {
    accepted = is;
    query = q;
    asked = query_of_task (command_of words) bytes ∙ asked;
    process = p;
    right = right;
    asks = asks;
  }

  -- ---- never
  -- what closed covering bounds exclude is never held
  excluded_never : (is : IsAccepted words bytes) (members : List ℕ) (right : Right) → IsOverStanding is.state.spaces right
      → ExcludedIn is.world is.state members right → NeverHeld is.world is.state members right
  excluded_never is members right standing excluding =
      let fits : Fits is.world is.state = accepted_fits words bytes is in
      λ events later members_then run pid member.
      exclusion is.world is.state members excluding.bounds right (state_fits is.state fits.keeps) fits.files standing
      excluding.encloses.covers excluding.encloses.closed excluding.apart events later members_then run pid member

  never_by : (is : IsAccepted words bytes) (task : Task) → the_task ≡ task → AsksNever task → IsDone task is.world is.state → ShowsNever words bytes
  never_by is (ToJudge q) same asks (p, right, asked, excluding) = record {
    asking = asked_so is q p right (ap query_in same) asked;
    excluding = excluding;
    never = excluded_never is (family is.state p.pid) right asked.standing excluding;
  }
  never_by is (ToCheck q text) same asks (p, right, asked, (rows, reads, excludes)) =
      let excluding : ExcludedIn is.world is.state (family is.state p.pid) right
      = record { bounds = bounds_hold rows; encloses = excludes.encloses; apart = excludes.apart } in
      record {
        asking = asked_so is q p right (ap query_in same) asked;
        excluding = excluding;
        never = excluded_never is (family is.state p.pid) right asked.standing excluding;
      }
  never_by is _ same asks done = absurd asks

  never_of : AsksNever the_task → Cause words bytes status.Accepted → ShowsNever words bytes
  never_of asks (inl (is, done)) = never_by is the_task refl asks done
  never_of asks (inr (n, is)) = absurd (subst (λ (c : Command). AsksNever (task_of c bytes)) is asks)

  -- ---- the tasks of causes
  no_task : (task : Task) (w : World) (s : State) → the_task ≡ task → IsAnsweredNo task w s → (q : Query) × (the_task ≡ ToJudge q) × IsNo q w s
  no_task (ToJudge q) w s same is = (q, same, is)
  no_task _ w s same is = absurd is

  open_task : (task : Task) (w : World) (s : State) → the_task ≡ task → IsLeftOpen task w s → (q : Query) × (the_task ≡ ToJudge q) × IsUndecided q w s
  open_task (ToJudge q) w s same is = (q, same, is)
  open_task _ w s same is = absurd is

  done_judge : (q : Query) → the_task ≡ ToJudge q → Cause words bytes status.Accepted → (is : IsAccepted words bytes) × IsDone (ToJudge q) is.world is.state
  done_judge q asked (inl (is, done)) = (is, subst (λ (t : Task). IsDone t is.world is.state) asked done)
  done_judge q asked (inr (n, is)) =
      let two : NoTask ≡ ToJudge q = sym (ap (λ (c : Command). task_of c bytes) is) ∙ asked in absurd (cc)

  done_confirm : (q : Query) (text : List ℕ) → the_task ≡ ToConfirm q text → Cause words bytes status.Accepted
      → (is : IsAccepted words bytes) × IsConfirmed q text is.world is.state
  done_confirm q text asked (inl (is, done)) = (is, subst (λ (t : Task). IsDone t is.world is.state) asked done)
  done_confirm q text asked (inr (n, is)) =
      let two : NoTask ≡ ToConfirm q text = sym (ap (λ (c : Command). task_of c bytes) is) ∙ asked in absurd (cc)

  -- ---- with what is given
  module _ (j : Judged) (gives : Gives words bytes j) where
    -- the lines before the answer
    before_answer : IsAccepted words bytes → List ReportLine
    before_answer is = (shown (shows the_task) is.world (whole words bytes j is)).lines

    -- the report of an audit of what is asked
    judged_report : (is : IsAccepted words bytes) (q : Query) → the_task ≡ ToJudge q → (p : Process) (right : Right)
        → AsksVerdict q is.world is.state p right
        → report words bytes j ≡ after (before_answer is) (verdict_report is.world is.state.spaces j.verdict)
    unfolding before_answer
    judged_report is q asked p right asks =
        of_accepted words bytes j is
        ∙ ap (λ (t : Task). after (before_answer is) (answer t j is.world is.state)) asked
        ∙ ap (λ (r : Report). after (before_answer is) r) (of_asked q is.world is.state (ToJudge q) j p right asks)

    judged_verdict : (is : IsAccepted words bytes) (q : Query) → the_task ≡ ToJudge q → (p : Process) (right : Right)
        → AsksVerdict q is.world is.state p right → IsVerdictOn is.world is.state (family is.state p.pid) right j.verdict
    judged_verdict is q asked p right asks =
        subst (λ (t : Task). StateGives t is.world is.state j) asked (gives_after words bytes j gives is) p right asks

    -- its status is the verdict's
    told_status : (is : IsAccepted words bytes) (x : Told) (st : Status)
        → report words bytes j ≡ after (before_answer is) (verdict_report is.world is.state.spaces x) → (report words bytes j).status ≡ st
        → (verdict_report is.world is.state.spaces x).status ≡ st
    told_status is x st same said = sym (ap (λ (r : Report). r.status) same) ∙ said

    shows_least : (is : IsAccepted words bytes) (q : Query) (p : Process) (right : Right) → the_task ≡ ToJudge q
        → AsksVerdict q is.world is.state p right → (x : Told) → IsVerdictOn is.world is.state (family is.state p.pid) right x
        → report words bytes j ≡ after (before_answer is) (verdict_report is.world is.state.spaces x)
        → (report words bytes j).status ≡ status.Accepted → ShowsLeast words bytes (report words bytes j).lines
    shows_least is q p right asked asks (TellsYes rows) given same said = record {
      asking = asked_so is q p right (ap query_in asked) asks;
      rows = rows;
      bounds = given.bounds;
      least = given.verdict.1;
      apart = given.verdict.2;
      before = before_answer is;
      last = ap (λ (r : Report). r.lines) same;
    }
    shows_least is q p right asked asks x given same said =
        let wrong : (verdict_report is.world is.state.spaces x).status ≡ status.Accepted =
        told_status is x status.Accepted same said in absurd (cc)

    shows_run : (is : IsAccepted words bytes) (q : Query) (p : Process) (right : Right) → the_task ≡ ToJudge q
        → AsksVerdict q is.world is.state p right → (x : Told) → IsVerdictOn is.world is.state (family is.state p.pid) right x
        → report words bytes j ≡ after (before_answer is) (verdict_report is.world is.state.spaces x)
        → (report words bytes j).status ≡ status.No → ShowsRun words bytes (report words bytes j).lines
    unfolding NoIsFirstRun FamilyAscends
    shows_run is q p right asked asks (TellsNo found) given same said =
        let ascend : PidsAscend (family is.state p.pid) = family_ascends is.state p.pid (accepted_fits words bytes is).keeps.ascends in
        record {
          asking = asked_so is q p right (ap query_in asked) asks;
          found = found;
          run = no_is_first_run is.world is.state (family is.state p.pid) right found ascend given.verdict;
          before = before_answer is;
          last = ap (λ (r : Report). r.lines) same;
        }
    shows_run is q p right asked asks x given same said =
        let wrong : (verdict_report is.world is.state.spaces x).status ≡ status.No =
        told_status is x status.No same said in absurd (cc)

    shows_blame : (is : IsAccepted words bytes) (q : Query) (p : Process) (right : Right) → the_task ≡ ToJudge q → IsUndecided q is.world is.state
        → (asks : AsksVerdict q is.world is.state p right) → (x : Told) → IsVerdictOn is.world is.state (family is.state p.pid) right x
        → report words bytes j ≡ after (before_answer is) (verdict_report is.world is.state.spaces x)
        → (report words bytes j).status ≡ status.Undecided → ShowsBlame words bytes (report words bytes j).lines
    unfolding UndecidedIsUnsettled UndecidedExactly
    shows_blame is q p right asked open_so asks (TellsUndecided blame rows) given same said =
        let members : List ℕ = family is.state p.pid in
        let fits : Fits is.world is.state = accepted_fits words bytes is in
        record {
          asking = asked_so is q p right (ap query_in asked) asks;
          neither =
              (undecided_exactly is.world is.state members right fits.keeps).0
              (blame, bounds_hold rows, given.verdict);
          unsettled =
              undecided_is_unsettled is.world is.state members right blame (bounds_hold rows)
              fits.keeps given.verdict;
          blame = blame;
          rows = rows;
          bounds = given.bounds;
          blamed = given.verdict.2;
          before = before_answer is;
          last = ap (λ (r : Report). r.lines) same;
        }
    shows_blame is q p right asked open_so asks x given same said =
        let wrong : (verdict_report is.world is.state.spaces x).status ≡ status.Undecided =
        told_status is x status.Undecided same said in absurd (cc)

    least_of : (q : Query) → the_task ≡ ToJudge q → (report words bytes j).status ≡ status.Accepted → ShowsLeast words bytes (report words bytes j).lines
    least_of q asked said = by (done_judge q asked (caused words bytes j status.Accepted gives said)) where
      by : (is : IsAccepted words bytes) × IsDone (ToJudge q) is.world is.state → ShowsLeast words bytes (report words bytes j).lines
      by (is, (p, right, asks, excluding)) =
          shows_least is q p right asked asks j.verdict (judged_verdict is q asked p right asks) (judged_report is q asked p right asks) said

    run_of : (report words bytes j).status ≡ status.No → ShowsRun words bytes (report words bytes j).lines
    run_of said = by (caused words bytes j status.No gives said) where
      by : AfterLog words bytes IsAnsweredNo → ShowsRun words bytes (report words bytes j).lines
      by (is, h) =
          let it : (q : Query) × (the_task ≡ ToJudge q) × IsNo q is.world is.state = no_task the_task is.world is.state refl h in
          shows_run is it.0 it.2.0 it.2.1 it.1 it.2.2 j.verdict (judged_verdict is it.0 it.1 it.2.0 it.2.1 it.2.2)
          (judged_report is it.0 it.1 it.2.0 it.2.1 it.2.2) said

    blame_of : (report words bytes j).status ≡ status.Undecided → ShowsBlame words bytes (report words bytes j).lines
    blame_of said = by (caused words bytes j status.Undecided gives said) where
      by : AfterLog words bytes IsLeftOpen → ShowsBlame words bytes (report words bytes j).lines
      by (is, h) =
          let it : (q : Query) × (the_task ≡ ToJudge q) × IsUndecided q is.world is.state = open_task the_task is.world is.state refl h in
          shows_blame is it.0 it.2.0 it.2.1 it.1 it.2 it.2.2 j.verdict (judged_verdict is it.0 it.1 it.2.0 it.2.1 it.2.2)
          (judged_report is it.0 it.1 it.2.0 it.2.1 it.2.2) said

    -- ---- settled families
    settled_told : (is : Asking words bytes) (x : Told)
        → IsVerdictOn is.accepted.world is.accepted.state (members_of words bytes is) is.right x
        → SettledIn is.accepted.world is.accepted.state (members_of words bytes is)
        → (verdict_report is.accepted.world is.accepted.state.spaces x).status ≡ status.Undecided → ⊥
    unfolding UndecidedIsUnsettled
    settled_told is (TellsNo found) given settled said = cc
    settled_told is (TellsYes rows) given settled said = cc
    settled_told is (TellsUndecided blame rows) given settled said =
        undecided_is_unsettled is.accepted.world is.accepted.state
        (members_of words bytes is) is.right blame (bounds_hold rows) (accepted_fits words bytes is.accepted).keeps given.verdict settled

    settled_never : (is : Asking words bytes) → SettledIn is.accepted.world is.accepted.state (members_of words bytes is)
        → (report words bytes j).status ≡ status.Undecided → ⊥
    settled_never is settled said = by (caused words bytes j status.Undecided gives said) where
      by : AfterLog words bytes IsLeftOpen → ⊥
      by (other, h) =
          let it : (q : Query) × (the_task ≡ ToJudge q) × IsUndecided q other.world other.state = open_task the_task other.world other.state refl h in
          let queries : Some is.query ≡ Some it.0 = sym is.asked ∙ query_of_task (command_of words) bytes ∙ ap query_in it.1 in
          let same : is.query ≡ it.0 = cc in
          let asked : the_task ≡ ToJudge is.query = it.1 ∙ ap ToJudge (sym same) in
          settled_told is j.verdict (judged_verdict is.accepted is.query asked is.process is.right is.asks) settled
          (told_status is.accepted j.verdict status.Undecided (judged_report is.accepted is.query asked is.process is.right is.asks) said)

    -- ---- runs
    -- a replay that isn't shown leaves no line where it is accepted
    nothing_before : (is : IsAccepted words bytes) → shows the_task ≡ false → before_answer is ≡ []
    unfolding before_answer
    nothing_before is hidden =
        ap (λ (b : Bool). (shown b is.world (whole words bytes j is)).lines) hidden
        ∙ ap (λ (st : Status). silenced st (replay_of is.world (whole words bytes j is)).lines) (replay_accepted words bytes j is)

    -- so the answer is the whole report
    pub answer_alone : (is : IsAccepted words bytes) (task : Task) → the_task ≡ task → shows task ≡ false
        → report words bytes j ≡ answer task j is.world is.state
    unfolding before_answer
    answer_alone is task asked hidden =
        of_accepted words bytes j is
        ∙ ap (λ (ls : List ReportLine). after ls (answer the_task j is.world is.state)) (nothing_before is (ap shows asked ∙ hidden))
        ∙ ap (λ (t : Task). answer t j is.world is.state) asked

    confirmed_of : (q : Query) (text : List ℕ) → the_task ≡ ToConfirm q text → (report words bytes j).status ≡ status.Accepted
        → ShowsHolder words bytes text (report words bytes j).lines
    unfolding ConfirmsLaterRuns
    confirmed_of q text asked said = by (done_confirm q text asked (caused words bytes j status.Accepted gives said)) where
      by : (is : IsAccepted words bytes) × IsConfirmed q text is.world is.state → ShowsHolder words bytes text (report words bytes j).lines
      by (is, (size, (p, right, asks, (pid, ends)))) = record {
        asking = asked_so is q p right (ap query_in asked) asks;
        pid = pid;
        ends = ends;
        only =
            ap (λ (r : Report). r.lines)
            (answer_alone is (ToConfirm q text) asked refl
            ∙ confirms_so q is.world is.state j text p right asks size (Confirms pid)
            ((confirms_later_runs is.world is.state (family is.state p.pid) right (script_reading is.world text) pid).1 ends));
      }

-- a run that is refused ends with no holder
refused_ends : (w : World) (s : State) (members : List ℕ) (right : Right) (text : List ℕ) → RunRefused text w s members right
    → (pid : ℕ) → EndsWithHolder w s members right (script_reading w text) pid → ⊥
unfolding RefusesLines RefusesEnds OthersEndWithout
refused_ends w s members right text (at_its_line number is) =
    let so : confirm_of w s members right (script_reading w text) ≡ RefusesLine number
    = (refuses_lines w s members right (script_reading w text) number).1 is in
    others_end_without w s members right (script_reading w text)
    (λ pid confirms. let two : RefusesLine number ≡ Confirms pid = sym so ∙ confirms in cc)
refused_ends w s members right text (at_its_end is) =
    let so : confirm_of w s members right (script_reading w text) ≡ RefusesEnd = (refuses_ends w s members right (script_reading w text)).1 is in
    others_end_without w s members right (script_reading w text)
    (λ pid confirms. let two : RefusesEnd ≡ Confirms pid = sym so ∙ confirms in cc)

-- ---- the laws
pub yes_is_never : YesIsNever
unfolding YesIsNever
yes_is_never words bytes j gives asks said = never_of words bytes asks (caused words bytes j status.Accepted gives said)

pub yes_prints_least : YesPrintsLeast
unfolding YesPrintsLeast
yes_prints_least words bytes j q gives asked said = least_of words bytes j gives q asked said

pub no_is_run : NoIsRun
unfolding NoIsRun
no_is_run words bytes j gives said = run_of words bytes j gives said

pub undecided_is_open : UndecidedIsOpen
unfolding UndecidedIsOpen
undecided_is_open words bytes j gives said = blame_of words bytes j gives said

pub settled_is_decided : SettledIsDecided
unfolding SettledIsDecided
settled_is_decided words bytes j is gives settled said = settled_never words bytes j gives is settled said

pub confirmed_is_run : ConfirmedIsRun
unfolding ConfirmedIsRun
confirmed_is_run words bytes j q text gives asked said = confirmed_of words bytes j gives q text asked said

pub refused_is_no_run : RefusedIsNoRun
unfolding RefusedIsNoRun
refused_is_no_run words bytes j q text gives asked said = by (caused words bytes j status.Refused gives said) where
  by : AfterLog words bytes IsRefused → (asking : Asking words bytes)
      × ((pid : ℕ) → EndsWithHolder asking.accepted.world asking.accepted.state (members_of words bytes asking) asking.right
      (script_reading asking.accepted.world text) pid → ⊥)
  by (is, h) =
      let refused : IsRefused (ToConfirm q text) is.world is.state = subst (λ (t : Task). IsRefused t is.world is.state) asked h in
      let it : OfFamily q is.world is.state (λ members right. RunRefused text is.world is.state members right) = refused.1 in (
        asked_so words bytes is q it.0 it.1 (ap query_in asked) it.2,
        refused_ends is.world is.state (family is.state it.0.pid) it.1 text it.3,
      )
