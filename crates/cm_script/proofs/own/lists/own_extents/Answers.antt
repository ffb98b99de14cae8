use Rattle.cm_script.proofs.OwnArguments.{extent_after, takes_three}
use Rattle.cm_script.proofs.own.lists.own_extents.Goals as goal

pub loop-inside-preserved : goal.loop-inside-preserved
loop-inside-preserved c = λ w.
    rw c.in-Ok.ensures.items
    (extent_after w _ _ _ _ (record { inside = c.in-Some.inside; outside = c.in_ok-outside.outside; length = c.in_ok-length.length }) (c.loop-inside.invariant w)
    (takes_three w _ _ _ _ _ _ _ (c.in-Some.ensures.taken w) (c.in_ok-outside.ensures.taken w) (c.in_ok-length.ensures.taken w)))
