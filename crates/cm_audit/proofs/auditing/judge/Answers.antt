use Rattle.std.proofs.Common.{◌∙◌, Some, ap, sym}
use Rattle.std.proofs.lemmas.Result.{IfOk-weaker}
use Rattle.cm_audit.proofs.auditing.judge.Goals as goal
use Rattle.model_plans.specs.PlanRun.{Found}

-- a plan's run, and its holder
pub returns-in-Some : goal.returns-in-Some
returns-in-Some c =
    let first = rw c.deref.ensures.value at c.in_ok-found.ensures in
    record { verdict = sym first ∙ c.in-Some.is ∙ ap (λ (f : Found). Some f) (sym c.found.view_is); bounds = tt }

-- or what bounds say
pub returns-in-None : goal.returns-in-None
returns-in-None c =
    let first = rw c.deref.ensures.value at c.in_ok-found.ensures in
    let given = rw c.deref-in-None.ensures.value at c.bounded.ensures in
    IfOk-weaker c.bounded.result _ _ (λ v is. is (sym first ∙ c.in-None.is)) given
