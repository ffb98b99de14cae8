use Rattle.std.proofs.Common.{List, sym, subst, arith}
use Rattle.cm_plans.proofs.NextPlans.{past_middles}
use Rattle.cm_plans.proofs.places.next_middle.Goals as goal
use Rattle.cm_plans.specs.Left.{IsNextOf}
use Rattle.model_plans.specs.Plan.{Plan}

pub returns-then-at-middles-clause-next : goal.returns-then-at-middles-clause-next
returns-then-at-middles-clause-next c right pid =
    subst (λ (plans : List Plan). IsNextOf right c.args.middles.now pid plans c.next_first.result)
    (sym (past_middles right c.args.middles.now pid c.args.at (omega arith))) (c.next_first.ensures.next right pid)

pub returns-then-at-middles-clause-standing : goal.returns-then-at-middles-clause-standing
returns-then-at-middles-clause-standing c spaces walks stands = c.next_first.ensures.standing spaces walks
