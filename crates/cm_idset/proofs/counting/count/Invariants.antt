use Rattle.std.proofs.Common.{◌≡◌, ◌+◌, drop}
use Rattle.cm_idset.specs.Size.{ids_count}
use Rattle.cm_idset.proofs.counting.count.Given as goal

abbrev pub invariant-loop-ids : goal.invariant-loop-ids
invariant-loop-ids l = l.count + ids_count (drop l.ids-index l.list) ≡ ids_count l.list
