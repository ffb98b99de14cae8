use Rattle.std.proofs.Common.{◌≤◌, ◌+◌, length}
use Rattle.cm_ordered.specs.Order.{IsBetween, below_by}
use Rattle.cm_ordered.proofs.search.place.Given as goal

abbrev pub invariant-loop-left : goal.invariant-loop-left
invariant-loop-left g l = (l.from + l.left ≤ length l.list)
    × IsBetween (below_by g.T.Numbered.number l.number) l.list l.from (l.from + l.left)

abbrev pub decreases-loop-left : goal.decreases-loop-left
decreases-loop-left g l = l.left
