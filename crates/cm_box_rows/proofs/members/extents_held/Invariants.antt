use Rattle.std.proofs.Common.{take}
use Rattle.cm_box_rows.proofs.members.extents_held.Given as goal
use Rattle.cm_box_rows.specs.Members.{MapHeld}
use Rattle.cm_idset.specs.Held.{Held}

abbrev pub invariant-loop-extent : goal.invariant-loop-extent
invariant-loop-extent l = MapHeld (take l.extent-index l.list) (Held l.set)
