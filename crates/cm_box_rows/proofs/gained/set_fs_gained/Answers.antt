use Rattle.cm_box_rows.specs.Rows.{RowHolds}
use Rattle.cm_box_rows.proofs.IdKinds.{fs_row}
use Rattle.cm_box_rows.proofs.gained.set_fs_gained.Goals as goal

pub returns : goal.returns
returns c = rw (c.ids_alone.ensures, c.empty-none.ensures, c.empty.ensures)
    (fs_row (RowHolds c.args.row.now) c.args.kind c.in_ok-fs.fs c.in_ok-fs.ensures)
