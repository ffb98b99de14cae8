use Rattle.std.proofs.Common.{arith}
use Rattle.cm_plans.proofs.NextPlans.{before_first}
use Rattle.cm_plans.proofs.turn.turn_with.Goals as goal

pub returns-clause-plans : goal.returns-clause-plans
returns-clause-plans c right = before_first right c.args.middles.items c.args.pid c.len.result (omega arith)
