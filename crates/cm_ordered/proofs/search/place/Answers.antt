use Rattle.std.proofs.Common.{arith}
use Rattle.cm_ordered.proofs.search.place.Goals as goal

pub loop-left-preserved : goal.loop-left-preserved
loop-left-preserved g c = (
  omega (arith, c.loop-left.invariant.0, c.ahead-from.ensures.within),
  c.ahead-from.ensures.between c.loop-left.left (omega arith) c.loop-left.invariant.1,
)
