use Rattle.std.proofs.Common.{◌≡◌, ◌<◌, ◌*◌, length}
use Rattle.cm_box.proofs.start.start_bounds.Given as goal
use Rattle.cm_box_rows.specs.Rows.{RowsHold, AreSameRows}
use Rattle.model_box.specs.Row.{Row, space_under}
use Rattle.model_box.specs.Start.{StartHas}

abbrev pub invariant-loop-n : goal.invariant-loop-n
invariant-loop-n l = record {
  count : length l.list.items ≡ 2 * l.n;
  holds : (row : Row) → space_under row < l.n → AreSameRows (RowsHold l.list.items row) (StartHas l.st l.members row);
}
