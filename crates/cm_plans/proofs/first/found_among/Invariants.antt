use Rattle.std.proofs.Common.{◌≡◌, drop}
use Rattle.cm_filter.specs.Filters.{permits}
use Rattle.cm_plans.proofs.first.found_among.Given as goal
use Rattle.cm_plans.specs.Ready.{IsSameQuestion}
use Rattle.cm_state.specs.Right.{right_of}
use Rattle.cm_declared.specs.World.{world_of}
use Rattle.model_plans.specs.Walk.{found_among}

abbrev pub invariant-loop-pid : goal.invariant-loop-pid
invariant-loop-pid l = record {
  found : found_among (permits l.fn.q.world.now.filter) (world_of l.fn.q.world.now) l.st (right_of l.fn.q.right.now) (drop l.pid-index l.members)
      ≡ found_among (permits l.fn.q.world.now.filter) (world_of l.fn.q.world.now) l.st (right_of l.fn.q.right.now) l.members;
  question : IsSameQuestion l.fn.q l.q;
}
