use Rattle.std.specs.List.{AllAdjacentBelow}
use Rattle.cm_idmap.proofs.Orders.{After}
use Rattle.cm_idmap.proofs.side.ascends_on.Given as goal

abbrev pub invariant-loop-i : goal.invariant-loop-i
invariant-loop-i l = AllAdjacentBelow (After l.side) l.list l.i
