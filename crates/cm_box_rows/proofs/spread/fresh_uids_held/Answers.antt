use Rattle.cm_box_rows.proofs.NewIds.{fresh_uids_read}
use Rattle.cm_box_rows.proofs.spread.fresh_uids_held.Goals as goal

pub returns : goal.returns
returns c =
    fresh_uids_read _ _ c.args.row.now c.args.fresh.now c.row.view_is c.fresh.view_is _ c.settable_within.result c.holds.ensures c.settable_within.ensures
