use Rattle.std.proofs.Common.{◌≡◌, ℕ, ◌<◌, false}
use Rattle.cm_box_rows.specs.Rows.{RowsHold}
use Rattle.cm_maker.specs.Widening.{Passes, is_listed}
use Rattle.cm_maker.proofs.passing.pass.Given as goal
use Rattle.model_verdict.specs.Rows.{AreLow}

abbrev pub invariant-loop-row : goal.invariant-loop-row
invariant-loop-row l = record {
  low : AreLow l.setting.state.now.spaces (RowsHold l.bounds);
  passes : Passes l.setting l.fn.waiting l.waiting l.fn.bounds l.bounds l.more;
  empty : l.more ≡ false → (y : ℕ) → y < l.row → is_listed l.waiting y ≡ false;
}
