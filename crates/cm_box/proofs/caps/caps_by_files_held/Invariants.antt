use Rattle.std.proofs.Common.{ℕ, ◌<◌}
use Rattle.cm_box.proofs.caps.caps_by_files_held.Given as goal
use Rattle.cm_box_rows.specs.Programs.{CapGiven}
use Rattle.cm_box.specs.Places.{row_of}
use Rattle.cm_box_rows.specs.Rows.{RowsHold}
use Rattle.model_box.specs.Row.{PermittedCaps}

abbrev pub invariant-loop-k : goal.invariant-loop-k
invariant-loop-k l =
    (k : ℕ) → k < l.k → (x : ℕ) → CapGiven l.files l.spaces (RowsHold l.bounds) (row_of l.at) k x
    → RowsHold l.bounds (row_of l.at) PermittedCaps x
