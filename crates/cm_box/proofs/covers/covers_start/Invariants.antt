use Rattle.std.proofs.Common.{ℕ, ◌<◌}
use Rattle.cm_box.proofs.covers.covers_start.Given as goal
use Rattle.cm_box_rows.specs.Rows.{RowsHold}
use Rattle.model_box.specs.Row.{row_at}
use Rattle.model_box.specs.Start.{HoldsStartAt}

abbrev pub invariant-loop-row : goal.invariant-loop-row
invariant-loop-row l = (z : ℕ) → z < l.row → HoldsStartAt l.st l.members (RowsHold l.bounds) (row_at z)
