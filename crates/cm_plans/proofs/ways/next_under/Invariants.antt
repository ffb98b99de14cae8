use Rattle.std.proofs.Common.{◌≡◌, ◌<◌, length}
use Rattle.cm_plans.proofs.ways.next_under.Given as goal
use Rattle.model_cred.specs.Space.{next_below}

abbrev pub invariant-loop-parent : goal.invariant-loop-parent
invariant-loop-parent l = record {
  stands : l.at.0 < length l.spaces;
  same : next_below l.spaces l.a.0 l.at.0 ≡ next_below l.spaces l.a.0 l.fn.n.0;
}

abbrev pub decreases-loop-parent : goal.decreases-loop-parent
decreases-loop-parent l = l.at.0
