use Rattle.std.proofs.Common.{◌≡◌, length}
use Rattle.cm_box_rows.specs.Rows.{RowsHold}
use Rattle.cm_filter.specs.Filters.{permits}
use Rattle.cm_maker.specs.Widening.{OthersRest}
use Rattle.cm_maker.proofs.growing.least.Given as goal
use Rattle.model_box.specs.Bounds.{bounds_hold}
use Rattle.model_box.specs.Encloses.{Encloses}
use Rattle.model_box.specs.Laws.{tested}
use Rattle.model_box.specs.Row.{IsWithin}
use Rattle.model_box.specs.Start.{StartHas}
use Rattle.model_verdict.specs.Least.{Test}
use Rattle.model_verdict.specs.Rows.{AreLow}
use Rattle.model_verdict.specs.Sweep.{row_count}
use Rattle.model_verdict.proofs.Lacking.{lacking}

abbrev pub invariant-loop-waiting : goal.invariant-loop-waiting
invariant-loop-waiting l = record {
  count : length l.bounds ≡ row_count l.st.spaces;
  list : length l.waiting ≡ row_count l.st.spaces;
  low : AreLow l.st.spaces (RowsHold l.bounds);
  rest : OthersRest (permits l.fn.filter) l.files l.st.spaces l.waiting l.bounds;
  covers : IsWithin (StartHas l.st l.members) (RowsHold l.bounds);
  within : (other : Test) → Encloses (permits l.fn.filter) l.files l.st l.members (tested other) → IsWithin (RowsHold l.bounds) (tested other);
}

abbrev pub decreases-loop-waiting : goal.decreases-loop-waiting
decreases-loop-waiting l = lacking (row_count l.st.spaces) (bounds_hold l.bounds)
