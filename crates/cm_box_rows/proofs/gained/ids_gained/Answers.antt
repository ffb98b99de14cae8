use Rattle.cm_idset.specs.Held.{Held}
use Rattle.cm_box_rows.specs.Rows.{RowHolds}
use Rattle.cm_box_rows.proofs.GainedRows.{same_on, either_same}
use Rattle.cm_box_rows.proofs.IdKinds.{spread_row}
use Rattle.cm_box_rows.proofs.gained.ids_gained.Goals as goal

pub returns : goal.returns
returns c =
    let old = c.effective_ids-old.ensures in
    rw c.ids_alone.ensures
    (spread_row (RowHolds c.args.row.now) c.args.kind c.in_ok-three.three c.args.new c.in_ok-fs.fs (Held c.args.new)
    (same_on c.in_ok-three.ensures (either_same _ _ _ old)) (λ x. (λ held. held, λ held. held))
    (same_on c.in_ok-fs.ensures (either_same _ _ _ old)))
