use Rattle.cm_idset.specs.Held.{Held}
use Rattle.cm_box_rows.specs.Programs.{GivenByFile}
use Rattle.cm_box_rows.specs.Rows.{RowHolds}
use Rattle.cm_box_rows.proofs.GainedRows.{or_more}
use Rattle.cm_box_rows.proofs.IdKinds.{spread_same}
use Rattle.cm_box.proofs.adding.exec_ids_gained.Goals as goal

pub returns : goal.returns
returns c = or_more c.ids_gained.result _ _ c.ids_gained.ensures (λ r is.
    spread_same (RowHolds c.args.row.now) c.args.kind (Held c.in_ok-new.new)
    (GivenByFile c.args.kind c.args.files.now c.args.spaces.now c.args.n.0 (RowHolds c.args.row.now)) (RowHolds r)
    c.in_ok-new.ensures is)
