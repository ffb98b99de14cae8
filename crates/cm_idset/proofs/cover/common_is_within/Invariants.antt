use Rattle.std.proofs.Common.{◌+◌, length}
use Rattle.cm_idset.proofs.Covering.{CommonInside}
use Rattle.cm_idset.proofs.cover.common_is_within.Given as goal

abbrev pub invariant-loop-a : goal.invariant-loop-a
invariant-loop-a l = CommonInside l.one l.other l.bound l.a l.b l.rest

abbrev pub decreases-loop-a : goal.decreases-loop-a
decreases-loop-a l = length l.a + length l.b
