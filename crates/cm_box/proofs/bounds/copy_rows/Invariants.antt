use Rattle.std.proofs.Common.{◌≡◌, ℕ, ◌<◌, length}
use Rattle.cm_box.proofs.bounds.copy_rows.Given as goal
use Rattle.cm_box_rows.specs.Rows.{RowHolds, AreSameRows}
use Rattle.model_box.specs.Bounds.{row_in}

abbrev pub invariant-loop-row : goal.invariant-loop-row
invariant-loop-row l = record {
  count : length l.made.items ≡ l.row-index;
  same : (y : ℕ) → y < l.row-index → AreSameRows (RowHolds (row_in l.made.items y)) (RowHolds (row_in l.rows y));
}
