use Rattle.std.proofs.Common.{◌≡◌, length}
use Rattle.cm_box_rows.specs.Rows.{RowsHold}
use Rattle.cm_maker.specs.Widening.{VisitsIn}
use Rattle.cm_maker.proofs.resting.rest.Given as goal
use Rattle.model_box.specs.Bounds.{bounds_hold}
use Rattle.model_verdict.specs.Rows.{AreLow}
use Rattle.model_verdict.specs.Sweep.{row_count}
use Rattle.model_verdict.proofs.Lacking.{lacking}

abbrev pub invariant-loop-more : goal.invariant-loop-more
invariant-loop-more l = record {
  count : length l.bounds ≡ length l.fn.bounds;
  low : AreLow l.setting.state.now.spaces (RowsHold l.bounds);
  visits : VisitsIn l.setting l.row l.fn.bounds l.bounds l.more;
}

abbrev pub decreases-loop-more : goal.decreases-loop-more
decreases-loop-more l = lacking (row_count l.setting.state.now.spaces) (bounds_hold l.bounds)
