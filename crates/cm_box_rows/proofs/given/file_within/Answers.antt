use Rattle.std.proofs.Common.{None, Some}
use Rattle.cm_box_rows.proofs.ByFiles.{none_lacking}
use Rattle.cm_box_rows.proofs.given.file_within.Goals as goal
use Rattle.cm_box_rows.specs.Kinds.{effective}
use Rattle.cm_box_rows.specs.Programs.{IdGiven}
use Rattle.cm_box_rows.specs.Rows.{RowHolds}

pub returns-in-None : goal.returns-in-None
returns-in-None c =
    none_lacking c.args.row.now (effective c.args.kind)
    (IdGiven c.args.kind c.args.files.now c.args.spaces.now c.args.n.0 (RowHolds c.args.row.now) c.args.k) None
    (rw c.in-None.is at c.id_lacking.ensures.given)

pub returns-in-Some : goal.returns-in-Some
returns-in-Some c =
    none_lacking c.args.row.now (effective c.args.kind)
    (IdGiven c.args.kind c.args.files.now c.args.spaces.now c.args.n.0 (RowHolds c.args.row.now) c.args.k) (Some c.in-Some.field-0)
    (rw c.in-Some.is at c.id_lacking.ensures.given)
