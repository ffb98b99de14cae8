use Rattle.cm_box_rows.specs.contracts.row.BoxRow.{the_view}
use Rattle.cm_box_rows.proofs.CredParts.{uids_out, gids_out, groups_out, sets_out, all_in}
use Rattle.std.proofs.Common.{◌∙◌, ap}
use Rattle.model_cred.specs.Credential.{Credential}
use Rattle.cm_box_rows.proofs.members.cred_held.Goals as goal

pub returns-then-not-four_held : goal.returns-then-not-four_held
returns-then-not-four_held c = rw (← c.row.view_is) (uids_out (the_view c.row.inside) c.args.cred.now c.user_ids.result
    c.four_held.result c.user_ids.ensures c.four_held.ensures c.if-not-four_held.true)

pub returns-then-not-four_held-2 : goal.returns-then-not-four_held-2
returns-then-not-four_held-2 c = rw (← c.row.view_is) (gids_out (the_view c.row.inside) c.args.cred.now c.group_ids.result
    c.four_held-2.result c.group_ids.ensures c.four_held-2.ensures c.if-not-four_held-2.true)

pub returns-then-not-groups_held : goal.returns-then-not-groups_held
returns-then-not-groups_held c = rw (← c.row.view_is) (groups_out (the_view c.row.inside) c.args.cred.now
    c.items.result.now c.groups_held.result (c.items.ensures ∙ ap (λ (m : Credential). m.groups) c.cred.view_is)
    c.groups_held.ensures c.if-not-groups_held.true)

pub returns-then-not-sets_held : goal.returns-then-not-sets_held
returns-then-not-sets_held c = sets_out c.args.row.now c.args.cred.now c.sets_held.result c.sets_held.ensures
    c.if-not-sets_held.true

pub returns : goal.returns
returns c = rw (← c.row.view_is) (
    all_in (the_view c.row.inside) c.args.cred.now c.user_ids.result c.group_ids.result c.items.result.now
    c.flags_held.result
    c.user_ids.ensures c.group_ids.ensures (c.items.ensures ∙ ap (λ (m : Credential). m.groups) c.cred.view_is)
    (c.four_held.ensures.0 c.if-not-four_held.false) (c.four_held-2.ensures.0 c.if-not-four_held-2.false)
    (c.groups_held.ensures.0 c.if-not-groups_held.false)
    (rw (← c.row.view_is) at (c.sets_held.ensures.0 c.if-not-sets_held.false))
    (rw (← c.row.view_is) at c.flags_held.ensures)
    )
