-- What a query asks about, or why it is refused.
use Rattle.std.specs.Prelude.{◌≡◌, ℕ, codes, IfSome, IsSomeAnd, None, Option, Some}
use Rattle.cm_base.specs.declared.limited.Limited.TheVariants as limit
use Rattle.cm_audit.specs.declared.verdict.AuditRefusal.TheVariants as audit
use Rattle.cm_audit.specs.declared.verdict.Question.{Question}
use Rattle.cm_cli.specs.declared.asking.Unasked.{Unasked}
use Rattle.cm_cli.specs.declared.asking.Unasked.TheVariants as unasked
use Rattle.cm_state.specs.Right.{right_of}
use Rattle.cm_state.specs.declared.right.Right as code
use Rattle.model_cred.specs.Process.{Process, State}
use Rattle.model_cred.specs.World.{World}
use Rattle.model_plans.specs.Firsts.{PidsAscend}
use Rattle.model_report.specs.Answer.{bad_query, query_answer}
use Rattle.model_report.specs.Causes.{AsksVerdict}
use Rattle.model_report.specs.Judged.{Judged}
use Rattle.model_report.specs.Query.{Query, asked_process, right_token}
use Rattle.model_report.specs.Replay.{Report, limit_hit}
use Rattle.model_report.specs.Task.{Task}
use Rattle.model_run.specs.Family.{family}

-- the query names the live process with this pid, and this right
pub record AsksOf (q : Query) (w : World) (s : State) (pid : ℕ) (right : code.Right) : Type 0 where
  pub named : IsSomeAnd (asked_process s q.pid) (λ p. p.pid ≡ pid)
  pub token : right_token w.names q.right ≡ Some (right_of right)

-- the report of a query that is refused; none where there was no memory
abbrev pub refusal_report : Unasked → Option Report
refusal_report unasked.Right = Some (bad_query (codes "right"))
refusal_report (unasked.Refused audit.NoProcess) = Some (bad_query (codes "pid"))
refusal_report (unasked.Refused audit.NoSpace) = Some (bad_query (codes "space"))
refusal_report (unasked.Refused (audit.FamilyTooLarge n)) = Some (limit_hit limit.Family)
refusal_report (unasked.Refused audit.NoMemory) = None

-- it is refused so, whatever is asked with it and whatever is judged
abbrev pub Refuses : Query → World → State → Unasked → Type 0
Refuses q w s why = IfSome (refusal_report why)
    (λ report. (task : Task) (j : Judged) → query_answer task j w s q ≡ report)

-- The query stands, and these are what it asks about.
pub record IsQuestion (q : Query) (w : World) (s : State) (question : Question) : Type 0 where
  pub process : Process
  pub asks : AsksVerdict q w s process (right_of question.right)
  pub members : question.members.items ≡ family s process.pid
  pub ascends : PidsAscend question.members.items
