use Rattle.std.proofs.Common.{◌<◌, length}
use Rattle.std.specs.Prelude.{◌↔◌}
use Rattle.cm_box.proofs.rights.next_met.Given as goal
use Rattle.cm_box_rows.specs.Rights.{NextMet}
use Rattle.cm_box_rows.specs.Rows.{RowHolds}

abbrev pub invariant-loop-parent : goal.invariant-loop-parent
invariant-loop-parent l = record {
  stands : l.at.0 < length l.spaces;
  same : NextMet l.spaces (RowHolds l.row) l.a.0 l.at.0 ↔ NextMet l.spaces (RowHolds l.row) l.a.0 l.fn.n.0;
}

abbrev pub decreases-loop-parent : goal.decreases-loop-parent
decreases-loop-parent l = l.at.0
