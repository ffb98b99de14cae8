use Rattle.std.proofs.Common.{ℕ, ◌<◌}
use Rattle.cm_box.proofs.closedness.open_row.Given as goal
use Rattle.cm_box_rows.specs.Rows.{RowsHold}
use Rattle.cm_box.specs.Rules.{rule_of}
use Rattle.cm_filter.specs.Filters.{permits}
use Rattle.model_box.specs.Closed.{ClosedAt}
use Rattle.model_box.specs.Row.{row_at}

abbrev pub invariant-loop-row : goal.invariant-loop-row
invariant-loop-row l = (z : ℕ) → z < l.row → ClosedAt (permits l.filter) l.files l.st.spaces (RowsHold l.bounds) (rule_of l.rule) (row_at z)
