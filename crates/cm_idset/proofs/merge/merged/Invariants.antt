use Rattle.std.proofs.Common.{◌+◌, length}
use Rattle.cm_idset.proofs.Merging.{Joining}
use Rattle.cm_idset.proofs.merge.merged.Given as goal

abbrev pub invariant-loop-a : goal.invariant-loop-a
invariant-loop-a l = Joining l.one l.other l.out.items l.a l.b

abbrev pub decreases-loop-a : goal.decreases-loop-a
decreases-loop-a l = length l.a + length l.b
