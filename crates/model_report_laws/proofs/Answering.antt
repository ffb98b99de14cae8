-- The answer to what is asked: its statuses come by their causes in the state that an accepted log leads to, and all that is
-- judged of one question says one thing.
use Rattle.std.proofs.Common.{◌≡◌, ◌⊎◌, ℕ, ◌<◌, ◌≤◌, inl, inr, Bool, cond, nat_lt, length, List, Result, Ok, Err, Some, refl, sym, ◌∙◌, ap, subst}
use Rattle.std.proofs.lemmas.Bool.{le-ltb, lt-ltb, cases_lt}
use Rattle.cm_base.specs.declared.limited.Limited.{Limited}
use Rattle.cm_base.specs.declared.limited.Limited.TheVariants as limit
use Rattle.cm_base.specs.declared.status.Status.{Status}
use Rattle.cm_base.specs.declared.status.Status.TheVariants as status
use Rattle.cm_base.specs.Limited.{limit_number}
use Rattle.model_box.proofs.Starts.{holds_start}
use Rattle.model_box.proofs.Worlds.{run_fits}
use Rattle.model_box.specs.Bounds.{BoxRow}
use Rattle.model_box.specs.Files.{FilesFit}
use Rattle.model_box.specs.Row.{row_at, row_number}
use Rattle.model_cert.specs.Document.{certificate}
use Rattle.model_cert.specs.Fault.{CertFault}
use Rattle.model_confirm.proofs.Confirms.{confirms_later_runs, refuses_lines, refuses_ends, stops_at_limits}
use Rattle.model_confirm.specs.Confirm.{Confirmed, Confirms, RefusesLine, RefusesEnd, PastLimit, confirm_of}
use Rattle.model_confirm.specs.Laws.{ConfirmsLaterRuns, RefusesLines, RefusesEnds, StopsAtLimits}
use Rattle.model_cred.specs.Call.{Event}
use Rattle.model_cred.specs.Process.{Process, State, KeepsState}
use Rattle.model_cred.specs.Right.{Right}
use Rattle.model_cred.specs.Space.{Spaces}
use Rattle.model_cred.specs.World.{World, KeepsWorld}
use Rattle.model_laws.proofs.Keeping.{world_run_keeps}
use Rattle.model_laws.specs.Runs.{WorldRunKeeps}
use Rattle.model_report.proofs.Answers.{of_asked, of_bad, of_larger, Comes, asks, bad, large, comes}
use Rattle.model_report.proofs.Replays.{run_of_within}
use Rattle.model_report.specs.Answer.{answer, query_answer, task_report, verdict_report, certificate_report, checked_report, confirmed_report}
use Rattle.model_report.specs.Causes.{AsksVerdict, IsDone, IsAnsweredNo, IsLeftOpen, IsRefused, OfQuery, IsTooLong, IsPast, IsBadQuery, IsLarge}
use Rattle.model_report.specs.Causes.{ReadsAs, CertificateRefused, RunRefused, by_reading, by_rows, at_its_line, at_its_end}
use Rattle.model_report.specs.Checked.{Checked, NotStart, NotClosed, MeetsRight, Holds, IsChecked, RowsExclude, RowsHold}
use Rattle.model_report.specs.Given.{StateGives}
use Rattle.model_report.specs.Judged.{Judged}
use Rattle.model_report.specs.Query.{Query}
use Rattle.model_report.specs.Replay.{Report, limit_hit}
use Rattle.model_report.specs.Task.{Task, NoTask, ToJudge, ToCheck, ToConfirm, query_in}
use Rattle.model_report.specs.Told.{Told, TellsNo, TellsYes, TellsUndecided, verdict_in, IsVerdictOn}
use Rattle.model_run.specs.Family.{family}
use Rattle.model_run.specs.Within.{RunWithin}
use Rattle.model_text.specs.Reading.{script_reading}
use Rattle.model_verdict.proofs.Verdicts.{one_verdict, yes_exactly, undecided_exactly}
use Rattle.model_verdict.specs.Blame.{Blame}
use Rattle.model_verdict.specs.InWorld.{VerdictIn}
use Rattle.model_verdict.specs.Least.{Test}
use Rattle.model_verdict.specs.Verdict.{Verdict, No, Yes, Undecided, AreOne, OneVerdict, YesExactly, UndecidedExactly}

-- ---- the state after an accepted log
-- A state that keeps what a state keeps, and in which the declared files fit.
pub record Fits (w : World) (s : State) : Type 0 where
  pub keeps : KeepsState s
  pub files : FilesFit w.files s.spaces

-- a world that keeps what worlds keep leads to such states
pub run_fit : (w : World) (es : List Event) (s : State) → KeepsWorld w → RunWithin w w.start es s → Fits w s
unfolding WorldRunKeeps
run_fit w es s keeps run = record {
  keeps = world_run_keeps w es s keeps (run_of_within w w.start es s run);
  files = run_fits w keeps es s (run_of_within w w.start es s run);
}

-- ---- the cause of each status of an answer
abbrev pub TaskCause : Task → World → State → Status → Type 0
TaskCause task w s status.Accepted = IsDone task w s
TaskCause task w s status.No = IsAnsweredNo task w s
TaskCause task w s status.Undecided = IsLeftOpen task w s
TaskCause task w s status.Refused = IsRefused task w s
TaskCause task w s status.BadQuery = OfQuery IsBadQuery task w s
TaskCause task w s status.Limit = OfQuery IsLarge task w s ⊎ IsTooLong task w s ⊎ IsPast task w s
TaskCause task w s _ = ⊥

-- ---- verdicts
-- the status of a verdict
abbrev verdict_status : Verdict → Status
verdict_status (No found) = status.No
verdict_status (Yes bounds) = status.Accepted
verdict_status (Undecided blame below) = status.Undecided

told_status : (w : World) (spaces : Spaces) (x : Told) → (verdict_report w spaces x).status ≡ verdict_status (verdict_in x)
told_status w spaces (TellsNo found) = refl
told_status w spaces _ = refl

one_status : (v other : Verdict) → AreOne v other → verdict_status v ≡ verdict_status other
one_status (No found) (No found') same = refl
one_status (Yes bounds) (Yes bounds') same = refl
one_status (Undecided blame below) (Undecided blame' below') same = refl
one_status _ _ same = absurd same

-- the status of what is told is that of any verdict on the question
pub status_is : (w : World) (s : State) (members : List ℕ) (right : Right) (x : Told) (u : Verdict) → IsVerdictOn w s members right x
    → VerdictIn w s members right u → (verdict_report w s.spaces x).status ≡ verdict_status u
unfolding OneVerdict
status_is w s members right x u given is =
    told_status w s.spaces x
    ∙ one_status (verdict_in x) u (one_verdict w s members right (verdict_in x) u given.verdict is)

-- ---- certificates
-- rows that enclose the members, and don't meet the right, hold
pub exclude_holds : (w : World) (s : State) (members : List ℕ) (right : Right) (rows : List BoxRow) (x : Checked)
    → IsChecked w s members right rows x → RowsExclude w s members right rows → x ≡ Holds
exclude_holds w s members right rows (NotStart row) is excludes =
    absurd (is.lacks (holds_start s members (RowsHold rows) excludes.encloses.covers (row_at (row_number row)) is.stands))
exclude_holds w s members right rows (NotClosed turn) is excludes =
    absurd (is.first.row.unmet (excludes.encloses.closed turn.rule (row_at (row_number turn.row)) is.first.row.stands))
exclude_holds w s members right rows (MeetsRight row) is excludes = absurd (excludes.apart (row, is.first.standing, is.first.meets))
exclude_holds w s members right rows Holds is excludes = refl

-- the cause of the status of rows that read so
checked_cause : (w : World) (s : State) (members : List ℕ) (right : Right) (rows : List BoxRow) (x : Checked)
    → IsChecked w s members right rows x
    → (((checked_report w s.spaces x).status ≡ status.Accepted) × RowsExclude w s members right rows)
    ⊎ (((checked_report w s.spaces x).status ≡ status.Refused) × (RowsExclude w s members right rows → ⊥))
checked_cause w s members right rows Holds is = inl (refl, is)
checked_cause w s members right rows (NotStart row) is =
    inr (refl, λ excludes. let other : NotStart row ≡ Holds = exclude_holds w s members right rows (NotStart row) is excludes in cc)
checked_cause w s members right rows (NotClosed turn) is =
    inr (refl, λ excludes. let other : NotClosed turn ≡ Holds = exclude_holds w s members right rows (NotClosed turn) is excludes in cc)
checked_cause w s members right rows (MeetsRight row) is =
    inr (refl, λ excludes. let other : MeetsRight row ≡ Holds = exclude_holds w s members right rows (MeetsRight row) is excludes in cc)

-- rows that don't exclude the right are refused
not_excluded : (w : World) (s : State) (members : List ℕ) (right : Right) (rows : List BoxRow) (x : Checked)
    → IsChecked w s members right rows x → (RowsExclude w s members right rows → ⊥) → (checked_report w s.spaces x).status ≡ status.Refused
not_excluded w s members right rows x is never = elim (checked_cause w s members right rows x is) [
  | inl holds ↦ absurd (never holds.1)
  | inr refused ↦ refused.0
]

-- ---- queries that are refused
-- whatever is asked for, a bad query has that status, and one about too large a family
bad_by : (q q' : Query) (task : Task) (j : Judged) (w : World) (s : State) → Some q ≡ Some q' → IsBadQuery q' w s
    → (query_answer task j w s q).status ≡ status.BadQuery
bad_by q q' task j w s same is =
    let one : q ≡ q' = cc in
    subst (λ (x : Query). (query_answer task j w s x).status ≡ status.BadQuery) (sym one)
    (ap (λ (r : Report). r.status) (of_bad q' w s task j is).1)

large_by : (q q' : Query) (task : Task) (j : Judged) (w : World) (s : State) → Some q ≡ Some q' → IsLarge q' w s
    → (query_answer task j w s q).status ≡ status.Limit
large_by q q' task j w s same is =
    let one : q ≡ q' = cc in
    subst (λ (x : Query). (query_answer task j w s x).status ≡ status.Limit) (sym one)
    (ap (λ (r : Report). r.status) (of_larger q' w s task j is))

-- ---- limits of texts
-- a text within its limit, and one past it
fits_limit : (l : Limited) (text : List ℕ) (r : Report) → length text ≤ limit_number l
    → cond (nat_lt (limit_number l) (length text)) (limit_hit l) r ≡ r
fits_limit l text r size = ap (λ (b : Bool). cond b (limit_hit l) r) (le-ltb (limit_number l) (length text) size)

over_limit : (l : Limited) (text : List ℕ) (r : Report) → limit_number l < length text
    → cond (nat_lt (limit_number l) (length text)) (limit_hit l) r ≡ limit_hit l
over_limit l text r over = ap (λ (b : Bool). cond b (limit_hit l) r) (lt-ltb (limit_number l) (length text) over)

-- what holds of the status in both cases
by_limit : (l : Limited) (text : List ℕ) (r : Report) (P : Status → Type 0)
    → (length text ≤ limit_number l → P r.status)
    → (limit_number l < length text → P status.Limit)
    → P (cond (nat_lt (limit_number l) (length text)) (limit_hit l) r).status
by_limit l text r P within past =
    elim (cases_lt (limit_number l) (length text)) [
      | inl over ↦ subst (λ (x : Report). P x.status) (sym (over_limit l text r over)) (past over)
      | inr size ↦ subst (λ (x : Report). P x.status) (sym (fits_limit l text r size)) (within size)
    ]

-- ---- the answer and its cause
module _ (q : Query) (w : World) (s : State) (j : Judged) where
  -- whatever is asked for, by the cause of the answer to a query that stands
  cause_of_query : (task : Task) → query_in task ≡ Some q
      → ((p : Process) (right : Right) → AsksVerdict q w s p right → TaskCause task w s
      (task_report task j w s (family s p.pid) right).status)
      → TaskCause task w s (query_answer task j w s q).status
  cause_of_query task same stands = by (comes q w s) where
    by : Comes q w s → TaskCause task w s (query_answer task j w s q).status
    by (asks p right asked) =
        subst (λ (r : Report). TaskCause task w s r.status) (sym (of_asked q w s task j p right asked))
        (stands p right asked)
    by (bad is) = subst (λ (r : Report). TaskCause task w s r.status) (sym (of_bad q w s task j is).1) (q, same, is)
    by (large is) =
        subst (λ (r : Report). TaskCause task w s r.status) (sym (of_larger q w s task j is)) (inl (q, same, is))

  -- an audit's
  module _ (gives : StateGives (ToJudge q) w s j) (fits : Fits w s) where
    verdict_cause : (p : Process) (right : Right) → AsksVerdict q w s p right → (x : Told) → IsVerdictOn w s (family s p.pid) right x
        → TaskCause (ToJudge q) w s (verdict_report w s.spaces x).status
    unfolding YesExactly UndecidedExactly
    verdict_cause p right asked (TellsNo found) is = (p, right, asked, (found, is.verdict))
    verdict_cause p right asked (TellsYes rows) is =
        (p, right, asked, (yes_exactly w s (family s p.pid) right fits.keeps fits.files asked.standing).0 (_, is.verdict))
    verdict_cause p right asked (TellsUndecided blame rows) is =
        (p, right, asked, (undecided_exactly w s (family s p.pid) right fits.keeps).0 (blame, _, is.verdict))

    judge_cause : TaskCause (ToJudge q) w s (answer (ToJudge q) j w s).status
    judge_cause =
        cause_of_query (ToJudge q) refl (λ p right asked. verdict_cause p right asked j.verdict (gives p right asked))

    judged_by : (p : Process) (right : Right) → AsksVerdict q w s p right → (u : Verdict) → VerdictIn w s (family s p.pid) right u
        → (answer (ToJudge q) j w s).status ≡ verdict_status u
    judged_by p right asked u is =
        ap (λ (r : Report). r.status) (of_asked q w s (ToJudge q) j p right asked)
        ∙ status_is w s (family s p.pid) right j.verdict u (gives p right asked) is

    judge_by : (st : Status) → TaskCause (ToJudge q) w s st → (answer (ToJudge q) j w s).status ≡ st
    unfolding YesExactly UndecidedExactly
    judge_by status.Accepted (p, right, asked, excluding) =
        let there : (bounds : Test) × VerdictIn w s (family s p.pid) right (Yes bounds)
        = (yes_exactly w s (family s p.pid) right fits.keeps fits.files asked.standing).1 excluding in
        judged_by p right asked (Yes there.0) there.1
    judge_by status.No (p, right, asked, (found, is)) = judged_by p right asked (No found) is
    judge_by status.Undecided (p, right, asked, is) =
        let there : (blame : Blame) × (below : Test) × VerdictIn w s (family s p.pid) right (Undecided blame below)
        = (undecided_exactly w s (family s p.pid) right fits.keeps).1 is in
        judged_by p right asked (Undecided there.0 there.1) there.2
    judge_by status.BadQuery (q', same, is) = bad_by q q' (ToJudge q) j w s same is
    judge_by status.Limit (inl (q', same, is)) = large_by q q' (ToJudge q) j w s same is
    judge_by status.Limit (inr (inl never)) = absurd never
    judge_by status.Limit (inr (inr never)) = absurd never
    judge_by _ never = absurd never

  -- that of the check of a certificate
  module _ (text : List ℕ) where
    -- what it reads as
    pub check_read : (members : List ℕ) (right : Right) (read : Result (List BoxRow) CertFault) → ReadsAs s text read
        → task_report (ToCheck q text) j w s members right ≡ certificate_report w s.spaces j.checked read
    check_read members right read reads =
        fits_limit limit.Certificate text
        (certificate_report w s.spaces j.checked (certificate (length s.spaces) text)) reads.size
        ∙ ap (λ (r : Result (List BoxRow) CertFault). certificate_report w s.spaces j.checked r) reads.reads

    module _ (gives : StateGives (ToCheck q text) w s j) where
      check_cause : TaskCause (ToCheck q text) w s (answer (ToCheck q text) j w s).status
      check_cause =
          cause_of_query (ToCheck q text) refl
          (λ p right asked.
          by_limit limit.Certificate text (certificate_report w s.spaces j.checked (certificate (length s.spaces) text))
          (TaskCause (ToCheck q text) w s)
          (λ size. by_read p right asked (certificate (length s.spaces) text) (record { size = size; reads = refl }))
          (λ over. inr (inl (p, right, asked, over)))) where
            by_read : (p : Process) (right : Right) → AsksVerdict q w s p right → (read : Result (List BoxRow) CertFault) → ReadsAs s text read
                → TaskCause (ToCheck q text) w s (certificate_report w s.spaces j.checked read).status
            by_read p right asked (Err why) reads = (p, right, asked, by_reading why reads)
            by_read p right asked (Ok rows) reads =
                elim (checked_cause w s (family s p.pid) right rows j.checked (gives p right rows asked reads)) [
                  | inl holds ↦
                      subst (λ (st : Status). TaskCause (ToCheck q text) w s st) (sym holds.0) (p, right, asked, (rows, reads, holds.1))
                  | inr refused ↦
                      subst (λ (st : Status). TaskCause (ToCheck q text) w s st) (sym refused.0) (p, right, asked, by_rows rows reads refused.1)
                ]

      -- the answer where it reads so
      pub checks_so : (p : Process) (right : Right) → AsksVerdict q w s p right → (read : Result (List BoxRow) CertFault) → ReadsAs s text read
          → answer (ToCheck q text) j w s ≡ certificate_report w s.spaces j.checked read
      checks_so p right asked read reads =
          of_asked q w s (ToCheck q text) j p right asked ∙ check_read (family s p.pid) right read reads

      pub check_holds : (p : Process) (right : Right) → AsksVerdict q w s p right → (rows : List BoxRow) → ReadsAs s text (Ok rows)
          → RowsExclude w s (family s p.pid) right rows → answer (ToCheck q text) j w s ≡ checked_report w s.spaces Holds
      check_holds p right asked rows reads excludes =
          checks_so p right asked (Ok rows) reads
          ∙ ap (λ (x : Checked). checked_report w s.spaces x)
          (exclude_holds w s (family s p.pid) right rows j.checked (gives p right rows asked reads) excludes)

      refused_by : (p : Process) (right : Right) → AsksVerdict q w s p right → CertificateRefused text w s (family s p.pid) right
          → (answer (ToCheck q text) j w s).status ≡ status.Refused
      refused_by p right asked (by_reading why reads) = ap (λ (r : Report). r.status) (checks_so p right asked (Err why) reads)
      refused_by p right asked (by_rows rows reads never) =
          ap (λ (r : Report). r.status) (checks_so p right asked (Ok rows) reads)
          ∙ not_excluded w s (family s p.pid) right rows j.checked (gives p right rows asked reads) never

      check_by : (st : Status) → TaskCause (ToCheck q text) w s st → (answer (ToCheck q text) j w s).status ≡ st
      check_by status.Accepted (p, right, asked, (rows, reads, excludes)) =
          ap (λ (r : Report). r.status) (check_holds p right asked rows reads excludes)
      check_by status.Refused (p, right, asked, refused) = refused_by p right asked refused
      check_by status.BadQuery (q', same, is) = bad_by q q' (ToCheck q text) j w s same is
      check_by status.Limit (inl (q', same, is)) = large_by q q' (ToCheck q text) j w s same is
      check_by status.Limit (inr (inl (p, right, asked, over))) =
          ap (λ (r : Report). r.status)
          (of_asked q w s (ToCheck q text) j p right asked
          ∙ over_limit limit.Certificate text
          (certificate_report w s.spaces j.checked (certificate (length s.spaces) text)) over)
      check_by status.Limit (inr (inr never)) = absurd never
      check_by _ never = absurd never

    -- ---- that of a run
    -- the answer where it comes to this
    pub confirms_so : (p : Process) (right : Right) → AsksVerdict q w s p right → length text ≤ limit_number limit.Run
        → (x : Confirmed) → confirm_of w s (family s p.pid) right (script_reading w text) ≡ x
        → answer (ToConfirm q text) j w s ≡ confirmed_report x
    confirms_so p right asked size x is =
        of_asked q w s (ToConfirm q text) j p right asked
        ∙ fits_limit limit.Run text
        (confirmed_report (confirm_of w s (family s p.pid) right (script_reading w text))) size
        ∙ ap (λ (c : Confirmed). confirmed_report c) is

    confirm_cause : TaskCause (ToConfirm q text) w s (answer (ToConfirm q text) j w s).status
    unfolding ConfirmsLaterRuns RefusesLines RefusesEnds StopsAtLimits
    confirm_cause =
        cause_of_query (ToConfirm q text) refl
        (λ p right asked.
        by_limit limit.Run text (confirmed_report (confirm_of w s (family s p.pid) right (script_reading w text)))
        (TaskCause (ToConfirm q text) w s)
        (λ size. by_what p right asked size (confirm_of w s (family s p.pid) right (script_reading w text)) refl)
        (λ over. inr (inl (p, right, asked, over)))) where
          by_what : (p : Process) (right : Right) → AsksVerdict q w s p right → length text ≤ limit_number limit.Run
              → (x : Confirmed) → confirm_of w s (family s p.pid) right (script_reading w text) ≡ x
              → TaskCause (ToConfirm q text) w s (confirmed_report x).status
          by_what p right asked size (Confirms pid) is =
              (size, (p, right, asked, (pid, (confirms_later_runs w s (family s p.pid) right (script_reading w text) pid).0 is)))
          by_what p right asked size (RefusesLine number) is =
              (size, (p, right, asked, at_its_line number ((refuses_lines w s (family s p.pid) right (script_reading w text) number).0 is)))
          by_what p right asked size RefusesEnd is =
              (size, (p, right, asked, at_its_end ((refuses_ends w s (family s p.pid) right (script_reading w text)).0 is)))
          by_what p right asked size (PastLimit l) is =
              inr (inr (size, (p, right, asked, (l, (stops_at_limits w s (family s p.pid) right (script_reading w text) l).0 is))))

    run_refused_by : (p : Process) (right : Right) → AsksVerdict q w s p right → length text ≤ limit_number limit.Run
        → RunRefused text w s (family s p.pid) right → (answer (ToConfirm q text) j w s).status ≡ status.Refused
    unfolding RefusesLines RefusesEnds
    run_refused_by p right asked size (at_its_line number is) =
        ap (λ (r : Report). r.status)
        (confirms_so p right asked size (RefusesLine number) ((refuses_lines w s (family s p.pid) right (script_reading w text) number).1 is))
    run_refused_by p right asked size (at_its_end is) =
        ap (λ (r : Report). r.status)
        (confirms_so p right asked size RefusesEnd ((refuses_ends w s (family s p.pid) right (script_reading w text)).1 is))

    confirm_by : (st : Status) → TaskCause (ToConfirm q text) w s st → (answer (ToConfirm q text) j w s).status ≡ st
    unfolding ConfirmsLaterRuns StopsAtLimits
    confirm_by status.Accepted (size, (p, right, asked, (pid, ends))) =
        ap (λ (r : Report). r.status)
        (confirms_so p right asked size (Confirms pid) ((confirms_later_runs w s (family s p.pid) right (script_reading w text) pid).1 ends))
    confirm_by status.Refused (size, (p, right, asked, refused)) = run_refused_by p right asked size refused
    confirm_by status.BadQuery (q', same, is) = bad_by q q' (ToConfirm q text) j w s same is
    confirm_by status.Limit (inl (q', same, is)) = large_by q q' (ToConfirm q text) j w s same is
    confirm_by status.Limit (inr (inl (p, right, asked, over))) =
        ap (λ (r : Report). r.status)
        (of_asked q w s (ToConfirm q text) j p right asked
        ∙ over_limit limit.Run text
        (confirmed_report (confirm_of w s (family s p.pid) right (script_reading w text))) over)
    confirm_by status.Limit (inr (inr (size, (p, right, asked, (l, past))))) =
        ap (λ (r : Report). r.status)
        (confirms_so p right asked size (PastLimit l) ((stops_at_limits w s (family s p.pid) right (script_reading w text) l).1 past))
    confirm_by _ never = absurd never

-- where nothing is asked
nothing_by : (j : Judged) (w : World) (s : State) (st : Status) → TaskCause NoTask w s st → (answer NoTask j w s).status ≡ st
nothing_by j w s status.Accepted is = refl
nothing_by j w s status.BadQuery (q, same, is) = absurd (cc)
nothing_by j w s status.Limit (inl (q, same, is)) = absurd (cc)
nothing_by j w s status.Limit (inr (inl never)) = absurd never
nothing_by j w s status.Limit (inr (inr never)) = absurd never
nothing_by j w s _ never = absurd never

-- The answer has its cause.
pub answer_cause : (task : Task) (j : Judged) (w : World) (s : State) → StateGives task w s j → Fits w s
    → TaskCause task w s (answer task j w s).status
answer_cause NoTask j w s gives fits = tt
answer_cause (ToJudge q) j w s gives fits = judge_cause q w s j gives fits
answer_cause (ToCheck q text) j w s gives fits = check_cause q w s j text gives
answer_cause (ToConfirm q text) j w s gives fits = confirm_cause q w s j text

-- And a cause makes its answer.
pub answer_by : (task : Task) (j : Judged) (w : World) (s : State) → StateGives task w s j → Fits w s
    → (st : Status) → TaskCause task w s st → (answer task j w s).status ≡ st
answer_by NoTask j w s gives fits st cause = nothing_by j w s st cause
answer_by (ToJudge q) j w s gives fits st cause = judge_by q w s j gives fits st cause
answer_by (ToCheck q text) j w s gives fits st cause = check_by q w s j text gives st cause
answer_by (ToConfirm q text) j w s gives fits st cause = confirm_by q w s j text st cause
