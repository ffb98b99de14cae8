use Rattle.std.proofs.Common.{List, sym, subst, arith}
use Rattle.cm_plans.proofs.NextPlans.{next_last, past_lasts, lasts_low}
use Rattle.cm_plans.proofs.places.next_place.Goals as goal
use Rattle.cm_plans.specs.Choices.{choice_of}
use Rattle.cm_plans.specs.Left.{IsNextOf}
use Rattle.cm_state.specs.Right.{right_of}
use Rattle.model_plans.specs.Plan.{Plan}

pub returns-in-Some-clause-next : goal.returns-in-Some-clause-next
returns-in-Some-clause-next c pid = next_last (right_of c.args.right.now) c.args.middles.now pid c.args.at c.in-Some.last c.in-Some.ensures.choice

pub returns-in-None-clause-next : goal.returns-in-None-clause-next
returns-in-None-clause-next c pid =
    subst (λ (plans : List Plan). IsNextOf (right_of c.args.right.now) c.args.middles.now pid plans c.next_middle.result)
    (sym (past_lasts (right_of c.args.right.now) c.args.middles.now pid c.args.at c.in-None.ensures.choice))
    (c.next_middle.ensures.next (right_of c.args.right.now) pid)

pub overflow_add-after : goal.overflow_add-after
overflow_add-after c = omega (arith, lasts_low (right_of c.args.right.now) c.args.at.lasts (choice_of c.in-Some.last) c.in-Some.ensures.choice)

pub returns-in-Some-clause-standing : goal.returns-in-Some-clause-standing
returns-in-Some-clause-standing c spaces walks stands = (stands, c.in-Some.ensures.standing spaces)
