use Rattle.cm_box_rows.specs.Rows.{RowHolds}
use Rattle.cm_box_rows.proofs.AddedRows.{brought_row}
use Rattle.cm_box_rows.proofs.coming.brought.Goals as goal

pub returns : goal.returns
returns c =
    brought_row (RowHolds c.args.from.now) _ c.in_ok-row.row c.empty.result c.empty-2.result c.full.result c.empty-3.result c.full-2.result
    c.row.view_is c.in_ok-row.ensures c.empty.ensures c.empty-2.ensures c.full.ensures c.empty-3.ensures c.full-2.ensures
