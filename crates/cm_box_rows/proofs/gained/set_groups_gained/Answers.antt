use Rattle.std.proofs.Common.{◌∙◌}
use Rattle.model_box.specs.Bounds.{BoxRow}
use Rattle.cm_box_rows.specs.contracts.row.BoxRow.{the_view}
use Rattle.cm_box_rows.specs.Rows.{RowHolds}
use Rattle.cm_box_rows.proofs.GainedRows.{over, groups_row}
use Rattle.cm_box_rows.proofs.gained.set_groups_gained.Goals as goal

pub returns : goal.returns
returns c = rw (← c.row.view_is) (over (the_view c.result.inside) (λ (b : BoxRow). record b { groups = c.in_ok-s.s }) _
    (c.result.view_is ∙ c.least-2.ensures)
    (groups_row (RowHolds (the_view c.row.inside)) c.in_ok-s.s (c.holds.ensures.0 c.if-not-holds.false)
    c.in_ok-s.ensures))
