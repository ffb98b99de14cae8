use Rattle.std.proofs.Common.{◌<◌, length}
use Rattle.cm_box.proofs.joins.joins_gained.Given as goal
use Rattle.cm_box_rows.specs.Rows.{RowHolds, RowsHold, InEitherRow, AreSameRows}
use Rattle.cm_box_rows.specs.Spread.{ByJoiningTo}

abbrev pub invariant-loop-parent : goal.invariant-loop-parent
invariant-loop-parent l = record {
  stands : l.at.0 < length l.spaces;
  same : AreSameRows (InEitherRow (RowHolds l.row) (ByJoiningTo l.spaces (RowsHold l.bounds) l.at.0))
      (ByJoiningTo l.spaces (RowsHold l.bounds) l.fn.n.0);
}

abbrev pub decreases-loop-parent : goal.decreases-loop-parent
decreases-loop-parent l = l.at.0
