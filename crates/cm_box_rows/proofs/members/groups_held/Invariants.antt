use Rattle.std.proofs.Common.{take}
use Rattle.cm_box_rows.proofs.members.groups_held.Given as goal
use Rattle.cm_box_rows.proofs.MemberParts.{GroupsHeld}
use Rattle.cm_idset.specs.Held.{Held}

abbrev pub invariant-loop-group : goal.invariant-loop-group
invariant-loop-group l = GroupsHeld (Held l.set) (take l.group-index l.groups)
