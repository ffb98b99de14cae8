use Rattle.std.proofs.Common.{◌<◌, length}
use Rattle.std.specs.Prelude.{◌↔◌}
use Rattle.cm_box.proofs.joins.joins_held.Given as goal
use Rattle.cm_box_rows.specs.Rows.{RowHolds, RowsHold}
use Rattle.cm_box_rows.specs.Spread.{JoinsHeld}

abbrev pub invariant-loop-parent : goal.invariant-loop-parent
invariant-loop-parent l = record {
  stands : l.at.0 < length l.spaces;
  same : JoinsHeld l.spaces (RowsHold l.bounds) (RowHolds l.row) l.at.0 ↔ JoinsHeld l.spaces (RowsHold l.bounds) (RowHolds l.row) l.fn.n.0;
}

abbrev pub decreases-loop-parent : goal.decreases-loop-parent
decreases-loop-parent l = l.at.0
