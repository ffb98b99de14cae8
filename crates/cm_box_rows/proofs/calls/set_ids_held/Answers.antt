use Rattle.cm_box_rows.specs.Kinds.{SettableId}
use Rattle.cm_box_rows.specs.Rows.{RowHolds}
use Rattle.cm_box_rows.proofs.IdKinds.{spread_rest, spread_not, within_same}
use Rattle.cm_box_rows.proofs.Tests.{on}
use Rattle.cm_box_rows.proofs.Spreading.{refused, granted}
use Rattle.cm_box_rows.proofs.calls.set_ids_held.Goals as goal

pub returns-then-not-settable_held : goal.returns-then-not-settable_held
returns-then-not-settable_held c =
    spread_not (RowHolds c.args.row.now) c.args.kind (SettableId c.args.kind (RowHolds c.args.row.now))
    (refused _ (on c.if-not-settable_held.ensures (within_same _ _ _ c.effective_ids.ensures)))

pub returns : goal.returns
returns c =
    spread_rest (RowHolds c.args.row.now) c.args.kind (SettableId c.args.kind (RowHolds c.args.row.now))
    c.spread_held.result (granted _ (on c.if-not-settable_held.ensures (within_same _ _ _ c.effective_ids.ensures)))
    c.spread_held.ensures
