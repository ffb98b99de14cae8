use Rattle.std.proofs.Common.{◌≡◌, drop}
use Rattle.cm_plans.proofs.first.first_holder.Given as goal
use Rattle.cm_state.specs.Right.{right_of}
use Rattle.model_plans.specs.PlanRun.{holder}

abbrev pub invariant-loop-pid : goal.invariant-loop-pid
invariant-loop-pid l = holder l.st (drop l.pid-index l.members) (right_of l.right) ≡ holder l.st l.members (right_of l.right)
