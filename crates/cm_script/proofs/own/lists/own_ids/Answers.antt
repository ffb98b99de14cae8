use Rattle.cm_script.proofs.OwnArguments.{id_after}
use Rattle.cm_script.proofs.own.lists.own_ids.Goals as goal

pub loop-id-preserved : goal.loop-id-preserved
loop-id-preserved c = λ w. rw c.in-Ok.ensures.items (id_after w _ _ _ _ _ (c.loop-id.invariant w) (c.in-Some.ensures.taken w))
