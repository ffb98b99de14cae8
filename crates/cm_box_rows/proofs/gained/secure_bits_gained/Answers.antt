use Rattle.std.proofs.Common.{◌∙◌, refl}
use Rattle.model_box.specs.Bounds.{BoxRow}
use Rattle.cm_box_rows.specs.contracts.row.BoxRow.{the_view}
use Rattle.cm_box_rows.specs.Rows.{RowHolds}
use Rattle.cm_box_rows.proofs.GainedRows.{over, root_row}
use Rattle.cm_box_rows.proofs.gained.secure_bits_gained.Goals as goal

pub returns : goal.returns
returns c = rw (← c.row.view_is)
    (over (the_view c.result.inside) (λ (b : BoxRow). record b { root_counts = c.holds-2.result }) _
    (c.result.view_is ∙ c.least-2.ensures)
    (root_row (RowHolds (the_view c.row.inside)) c.holds-2.result (c.holds.ensures.0 c.if-not-holds.false)
    (λ is. (c.holds-2.ensures.0 is).1, λ clear. c.holds-2.ensures.1 (refl, clear))))
