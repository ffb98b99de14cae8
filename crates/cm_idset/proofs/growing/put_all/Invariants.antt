use Rattle.std.proofs.Common.{drop}
use Rattle.cm_idset.proofs.Growth.{Putting}
use Rattle.cm_idset.proofs.growing.put_all.Given as goal

abbrev pub invariant-loop-next : goal.invariant-loop-next
invariant-loop-next l = Putting l.fn.list.items l.more l.list.items (drop l.next-index l.more)
