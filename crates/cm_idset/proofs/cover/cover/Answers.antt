use Rattle.cm_idset.proofs.Covering.{one_lacking}
use Rattle.cm_idset.proofs.Rests.{first_and_rest}
use Rattle.cm_idset.proofs.cover.cover.Goals as goal

pub returns-else-is_inside : goal.returns-else-is_inside
returns-else-is_inside c =
    let rest_is = first_and_rest c.loop-rest.rest.now c.i-item.result c.in-len1-up.len_at_least c.i-item.is in
    one_lacking c.args.list.now _ _ c.i-item.result c.args.ids.now rest_is c.requires.full c.if-not-is_before.ensures c.if-is_inside.ensures
    c.loop-rest.invariant
