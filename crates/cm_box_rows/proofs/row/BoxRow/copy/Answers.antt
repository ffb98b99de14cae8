use Rattle.cm_box_rows.specs.Rows.{RowHolds}
use Rattle.cm_box_rows.proofs.GainedRows.{or_more}
use Rattle.cm_box_rows.proofs.RowParts.{joined_itself}
use Rattle.cm_box_rows.proofs.row.BoxRow.copy.Goals as goal

pub returns : goal.returns
returns c = or_more c.joined.result _ _ c.joined.ensures (λ r is. joined_itself (RowHolds r) (RowHolds c.args.self.now)
    is)
