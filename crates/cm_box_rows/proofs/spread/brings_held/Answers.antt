use Rattle.std.proofs.Common.{refl}
use Rattle.cm_box_rows.specs.Rows.{RowHolds}
use Rattle.cm_box_rows.proofs.Spreading.{brings_not_ids, brings_not_flag, brings_rest, new_privs_out, new_privs_within}
use Rattle.cm_box_rows.proofs.spread.brings_held.Goals as goal

pub returns-then-not-ids_held : goal.returns-then-not-ids_held
returns-then-not-ids_held c = brings_not_ids (RowHolds c.args.from.now) (RowHolds c.args.row.now) c.if-not-ids_held.ensures

pub returns-then-not-within : goal.returns-then-not-within
returns-then-not-within c =
    brings_not_flag (RowHolds c.args.from.now) (RowHolds c.args.row.now)
    (new_privs_out _ _ c.args.from.now c.args.row.now c.from.view_is c.row.view_is (c.if-not-within.ensures.no refl))

pub returns : goal.returns
returns c =
    brings_rest (RowHolds c.args.from.now) (RowHolds c.args.row.now) c.full_held.result c.if-not-ids_held.ensures
    (new_privs_within _ _ c.args.from.now c.args.row.now c.from.view_is c.row.view_is (c.if-not-within.ensures.yes refl)) c.full_held.ensures
