use Rattle.std.proofs.Common.{ℕ, ◌<◌}
use Rattle.cm_box.proofs.rights.meets.Given as goal
use Rattle.cm_box_rows.specs.Rows.{RowsHold}
use Rattle.cm_state.specs.Right.{right_of}
use Rattle.model_box.specs.Meets.{MeetsAt}
use Rattle.model_box.specs.Row.{row_at}

abbrev pub invariant-loop-row : goal.invariant-loop-row
invariant-loop-row l = (z : ℕ) → z < l.row → MeetsAt l.st.spaces (RowsHold l.bounds) (right_of l.right) (row_at z) → ⊥
