use Rattle.cm_idset.proofs.Growth.{put_next}
use Rattle.cm_idset.proofs.Rests.{next_of}
use Rattle.cm_idset.proofs.growing.put_all.Goals as goal

pub loop-next-preserved : goal.loop-next-preserved
loop-next-preserved c =
    let left = next_of c.args.more.now c.loop-next.next-index c.next-item.result c.loop-next-test.true c.next-item.is in
    put_next c.args.list.now.items c.args.more.now _ _ _ _ _ left c.loop-next.invariant c.in_ok-put.ensures
