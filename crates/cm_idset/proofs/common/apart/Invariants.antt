use Rattle.std.proofs.Common.{◌+◌, length}
use Rattle.cm_idset.proofs.Walks.{Left}
use Rattle.cm_idset.proofs.common.apart.Given as goal

abbrev pub invariant-loop-a : goal.invariant-loop-a
invariant-loop-a l = Left l.one l.other l.a l.b

abbrev pub decreases-loop-a : goal.decreases-loop-a
decreases-loop-a l = length l.a + length l.b
