use Rattle.std.proofs.Common.{take}
use Rattle.std.specs.Prelude.{All}
use Rattle.cm_box_rows.proofs.members.members_held.Given as goal
use Rattle.cm_box_rows.specs.Members.{MemberHeld}
use Rattle.cm_box_rows.specs.Rows.{RowHolds}

abbrev pub invariant-loop-pid : goal.invariant-loop-pid
invariant-loop-pid l = All (MemberHeld l.st l.n.0 (RowHolds l.row)) (take l.pid-index l.members)
