use Rattle.std.proofs.Common.{arith}
use Rattle.cm_plans.proofs.NextPlans.{without_middles}
use Rattle.cm_plans.proofs.places.next_first.Goals as goal

pub returns-then-middles-eq0-clause-next : goal.returns-then-middles-eq0-clause-next
returns-then-middles-eq0-clause-next c right pid = without_middles right c.args.middles.now pid c.args.at (omega arith)
