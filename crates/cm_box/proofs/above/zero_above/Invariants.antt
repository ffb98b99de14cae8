use Rattle.std.proofs.Common.{◌<◌, length, Some}
use Rattle.std.specs.Prelude.{◌↔◌}
use Rattle.cm_box.proofs.above.zero_above.Given as goal
use Rattle.cm_box_rows.specs.Rows.{RowsHold}
use Rattle.model_box.specs.Files.{ZeroAbove}

abbrev pub invariant-loop-parent : goal.invariant-loop-parent
invariant-loop-parent l = record {
  stands : l.at.0 < length l.spaces;
  same : ZeroAbove l.spaces (RowsHold l.bounds) l.at.0 (Some l.id) ↔ ZeroAbove l.spaces (RowsHold l.bounds) l.fn.n.0 (Some l.id);
}

abbrev pub decreases-loop-parent : goal.decreases-loop-parent
decreases-loop-parent l = l.at.0
