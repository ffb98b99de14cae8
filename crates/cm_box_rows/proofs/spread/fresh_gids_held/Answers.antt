use Rattle.cm_box_rows.proofs.NewIds.{fresh_gids_refused}
use Rattle.cm_box_rows.proofs.spread.fresh_gids_held.Goals as goal

pub returns-then-not-settable_within : goal.returns-then-not-settable_within
returns-then-not-settable_within c =
    fresh_gids_refused _ _ c.args.row.now c.args.fresh.now c.row.view_is c.fresh.view_is _ c.holds.ensures c.if-not-settable_within.ensures
