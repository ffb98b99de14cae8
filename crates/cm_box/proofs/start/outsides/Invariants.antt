use Rattle.std.proofs.Common.{take}
use Rattle.cm_box.proofs.start.outsides.Given as goal
use Rattle.cm_box_rows.proofs.OutsideIds.{Outside}
use Rattle.cm_idset.specs.Held.{Held}
use Rattle.cm_sets.specs.Sets.{AreSame}

abbrev pub invariant-loop-extent : goal.invariant-loop-extent
invariant-loop-extent l = AreSame (Held l.ids) (Outside (take l.extent-index l.list))
