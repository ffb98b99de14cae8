use Rattle.std.proofs.Common.{ℕ, ◌<◌, get_or}
use Rattle.model_box.specs.Bounds.{BoxRow}
use Rattle.model_verdict.specs.Rows.{IsRow}
use Rattle.cm_maker.proofs.seeing.see_rows.Given as goal

abbrev pub invariant-loop-row : goal.invariant-loop-row
invariant-loop-row l = (k : ℕ) (d : BoxRow) → k < l.row-index → IsRow (get_or l.rows k d)
