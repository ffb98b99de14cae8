use Rattle.std.proofs.Common.{length}
use Rattle.cm_idset.proofs.Covering.{Skipped}
use Rattle.cm_idset.proofs.cover.cover.Given as goal

abbrev pub invariant-loop-rest : goal.invariant-loop-rest
invariant-loop-rest l = Skipped l.list l.rest l.ids

abbrev pub decreases-loop-rest : goal.decreases-loop-rest
decreases-loop-rest l = length l.rest
