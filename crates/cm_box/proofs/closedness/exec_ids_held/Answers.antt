use Rattle.cm_box_rows.specs.Programs.{GivenByFile}
use Rattle.cm_box_rows.specs.Rows.{RowHolds}
use Rattle.cm_box_rows.proofs.IdKinds.{spread_not, spread_rest}
use Rattle.cm_box_rows.proofs.Spreading.{refused, granted}
use Rattle.cm_box.proofs.closedness.exec_ids_held.Goals as goal

pub returns-then-not-given_within : goal.returns-then-not-given_within
returns-then-not-given_within c =
    spread_not (RowHolds c.args.row.now) c.args.kind
    (GivenByFile c.args.kind c.args.files.now c.args.spaces.now c.args.n.0 (RowHolds c.args.row.now))
    (refused _ c.if-not-given_within.ensures)

pub returns : goal.returns
returns c =
    spread_rest (RowHolds c.args.row.now) c.args.kind
    (GivenByFile c.args.kind c.args.files.now c.args.spaces.now c.args.n.0 (RowHolds c.args.row.now))
    c.spread_held.result (granted _ c.if-not-given_within.ensures) c.spread_held.ensures
