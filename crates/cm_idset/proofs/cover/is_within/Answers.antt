use Rattle.cm_idset.proofs.Covering.{inside_more}
use Rattle.cm_idset.proofs.Rests.{next_of}
use Rattle.cm_idset.proofs.cover.is_within.Goals as goal

pub loop-ids-preserved : goal.loop-ids-preserved
loop-ids-preserved c =
    let a_is = next_of c.args.one.now c.loop-ids.ids-index c.ids-item.result c.loop-ids-test.true c.ids-item.is in
    inside_more c.args.one.now c.args.other.now _ _ c.loop-ids.rest.now _ _ a_is c.in-Some.ensures c.loop-ids.invariant
