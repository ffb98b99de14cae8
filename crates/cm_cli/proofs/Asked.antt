-- What a query comes to, by the process and the right that it names: it stands, or it is refused.
use Rattle.std.proofs.Common.{◌≡◌, ◌<◌, ◌≤◌, ℕ, List, length, Option, None, Some, Result, Ok, Err, IfOk}
use Rattle.std.proofs.Common.{subst, sym, ap, ◌∙◌, true, false, arith}
use Rattle.std.specs.Prelude.{IfSome, IsSomeAnd}
use Rattle.cm_audit.specs.declared.verdict.AuditRefusal.{AuditRefusal}
use Rattle.cm_audit.specs.declared.verdict.AuditRefusal.TheVariants as audit
use Rattle.cm_audit.specs.declared.verdict.Question.{Question}
use Rattle.cm_base.specs.declared.limited.Limited.TheVariants as limit
use Rattle.cm_base.specs.Limited.{limit_number}
use Rattle.cm_base.specs.declared.status.Status.{Status}
use Rattle.cm_cli.proofs.Auditing.{alive, no_space, query_stands, too_large}
use Rattle.cm_cli.specs.Asking.{AsksOf, IsQuestion, Refuses}
use Rattle.cm_cli.specs.Put.{IsPut}
use Rattle.cm_cli.specs.declared.asking.Unasked.TheVariants as unasked
use Rattle.cm_state.specs.Right.{right_of}
use Rattle.cm_state.specs.declared.right.Right as code
use Rattle.model_box.specs.Meets.{IsOverStanding}
use Rattle.model_cred.specs.Process.{State, is_alive}
use Rattle.model_cred.specs.World.{World}
use Rattle.model_plans.specs.Firsts.{PidsAscend}
use Rattle.model_report.proofs.Answers.{of_asked}
use Rattle.model_report.specs.Answer.{query_answer, verdict_report}
use Rattle.model_report.specs.Given.{StateGives}
use Rattle.model_report.specs.Judged.{Judged}
use Rattle.model_report.specs.Query.{Query}
use Rattle.model_report.specs.Replay.{Report}
use Rattle.model_report.specs.Task.{ToJudge}
use Rattle.model_report.specs.Told.{Told, IsVerdictOn}
use Rattle.model_report_laws.proofs.Judging.{told_once}
use Rattle.model_run.specs.Family.{family}

module _ (q : Query) (w : World) (s : State) (pid : ℕ) (right : code.Right) (asks : AsksOf q w s pid right) where
  -- the query stands
  pub question_is : (question : Question) → question.right ≡ right → question.members.items ≡ family s pid
      → PidsAscend question.members.items → IsOverStanding s.spaces (right_of right)
      → length (family s pid) ≤ limit_number limit.Family → IsQuestion q w s question
  question_is question is are ascends standing size =
      let there = query_stands q w s pid (right_of right) asks.named asks.token standing size in
      record {
        process = there.0;
        asks = rw is there.1;
        members = are ∙ ap (λ (n : ℕ). family s n) (sym there.2);
        ascends = ascends;
      }

  -- or it is refused, as it was asked
  pub refuses_as : {T : Type 0} → (r : Result T AuditRefusal) (e : AuditRefusal) → r ≡ Err e
      → (r ≡ Err audit.NoProcess → is_alive s.processes pid ≡ false)
      → (r ≡ Err audit.NoSpace → (is_alive s.processes pid ≡ true) × (IsOverStanding s.spaces (right_of right) → ⊥))
      → ((n : ℕ) → r ≡ Err (audit.FamilyTooLarge n) → (n ≡ length (family s pid)) × (limit_number limit.Family < n)
      × (is_alive s.processes pid ≡ true) × IsOverStanding s.spaces (right_of right))
      → Refuses q w s (unasked.Refused e)
  refuses_as r audit.NoProcess is dead none large =
      let lives = alive q w s pid asks.named in
      let never = dead is in
      absurd (grind (arith, lives, never))
  refuses_as r audit.NoSpace is dead none large = λ task j.
      no_space q w s task j pid (right_of right) asks.named asks.token (none is).1
  refuses_as r (audit.FamilyTooLarge n) is dead none large = λ task j.
      let (size, over, lives, standing) = large n is in
      too_large q w s task j pid (right_of right) asks.named asks.token standing
      (subst (λ (k : ℕ). limit_number limit.Family < k) size over)
  refuses_as r audit.NoMemory is dead none large = tt

-- the verdict on a question is the answer to the query
pub question_judged : (q : Query) (w : World) (s : State) (question : Question) → IsQuestion q w s question
    → (j : Judged) (x : Told)
    → IsVerdictOn w s question.members.items (right_of question.right) x → StateGives (ToJudge q) w s j
    → query_answer (ToJudge q) j w s q ≡ verdict_report w s.spaces x
question_judged q w s question is j x told gives =
    let right = right_of question.right in
    let on : IsVerdictOn w s (family s is.process.pid) right x =
    subst (λ (ms : List ℕ). IsVerdictOn w s ms right x) is.members told in
    of_asked q w s (ToJudge q) j is.process right is.asks
    ∙ ap (λ (t : Told). verdict_report w s.spaces t)
    (told_once w s (family s is.process.pid) right j.verdict x (gives is.process right is.asks) on)

-- what is put of a query that is refused is the answer to it
pub refused_put : {E : Type 0} → (res : Result Status E) (o : Option Report) (answer : Report) (old new : List ℕ)
    → IfOk res (λ st. IsSomeAnd o (λ report. IsPut report old new st)) → IfSome o (λ report. answer ≡ report)
    → IfOk res (λ st. IsPut answer old new st)
refused_put (Err e) o answer old new put is = tt
refused_put (Ok st) None answer old new put is = absurd put
refused_put (Ok st) (Some report) answer old new put is = subst (λ (r : Report). IsPut r old new st) (sym is) put

-- so whatever is asked with it and judged
pub refused_so : (o : Option Report) (P : Report → Type 0) → IfSome o P → (Q : Report → Type 0)
    → ((r : Report) → P r → Q r) → IfSome o Q
refused_so None P is Q goes = tt
refused_so (Some r) P is Q goes = goes r is
