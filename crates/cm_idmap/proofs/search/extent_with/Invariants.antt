use Rattle.std.proofs.Common.{◌-◌}
use Rattle.cm_idmap.proofs.Halves.{Halved}
use Rattle.cm_idmap.proofs.search.extent_with.Given as goal

abbrev pub invariant-loop-low : goal.invariant-loop-low
invariant-loop-low g l = Halved l.side (g.T.Looks.extents l.table) l.id l.low l.high l.fn.steps l.steps

abbrev pub decreases-loop-low : goal.decreases-loop-low
decreases-loop-low g l = l.high - l.low
