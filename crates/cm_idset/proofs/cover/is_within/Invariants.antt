use Rattle.std.proofs.Common.{drop}
use Rattle.cm_idset.proofs.Covering.{Inside}
use Rattle.cm_idset.proofs.cover.is_within.Given as goal

abbrev pub invariant-loop-ids : goal.invariant-loop-ids
invariant-loop-ids l = Inside l.one l.other (drop l.ids-index l.one) l.rest
