use Rattle.std.proofs.Common.{◌≡◌, ℕ, length}
use Rattle.cm_box_rows.specs.Rows.{RowsHold}
use Rattle.cm_filter.specs.Filters.{permits}
use Rattle.cm_maker.specs.Sweeping.{IsSweptTo}
use Rattle.cm_maker.proofs.blaming.blame.Given as goal
use Rattle.cm_state.specs.Right.{right_of}
use Rattle.model_box.specs.Bounds.{bounds_hold}
use Rattle.model_box.specs.Meets.{Meets}
use Rattle.model_verdict.specs.Sweep.{row_count, turns_before}
use Rattle.model_verdict.proofs.Lacking.{lacking}

abbrev pub invariant-loop-bounds : goal.invariant-loop-bounds
invariant-loop-bounds l = record {
  count : length l.bounds ≡ row_count l.fn.st.spaces;
  swept : (round : ℕ) × IsSweptTo (permits l.fn.filter) l.fn.files l.fn.st l.fn.members (turns_before l.fn.st.spaces round) l.bounds;
  apart : Meets l.fn.st.spaces (RowsHold l.bounds) (right_of l.right) → ⊥;
}

abbrev pub decreases-loop-bounds : goal.decreases-loop-bounds
decreases-loop-bounds l = lacking (row_count l.fn.st.spaces) (bounds_hold l.bounds)
