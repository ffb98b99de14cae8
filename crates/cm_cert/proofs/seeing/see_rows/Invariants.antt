use Rattle.std.proofs.Common.{ℕ, ◌<◌, get_or}
use Rattle.cm_cert.proofs.seeing.see_rows.Given as goal
use Rattle.model_box.specs.Bounds.{BoxRow}
use Rattle.model_cert.specs.Laws.{HasLawfulSets}

abbrev pub invariant-loop-row : goal.invariant-loop-row
invariant-loop-row l = (k : ℕ) (d : BoxRow) → k < l.row-index → HasLawfulSets (get_or l.rows k d)
