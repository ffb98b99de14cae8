use Rattle.cm_box_rows.specs.Rows.{RowHolds}
use Rattle.cm_box_rows.proofs.IdKinds.{fs_held, within_same}
use Rattle.cm_box_rows.proofs.Tests.{on}
use Rattle.cm_box_rows.proofs.calls.set_fs_held.Goals as goal

pub returns : goal.returns
returns c =
    on (on c.settable_held.ensures (within_same _ _ _ c.fs_ids.ensures))
    (fs_held (RowHolds c.args.row.now) c.args.kind)
