-- The drill goes on event by event.
use Rattle.cm_drill.proofs.Counting.{goes_on, state_keeps}
use Rattle.cm_drill.proofs.telling.tests.state_after.Goals as goal
use Rattle.model_drill.specs.Drill.{stand_after}

pub loop-made-init : goal.loop-made-init
unfolding stand_after
loop-made-init c = c.in_ok-g.ensures

pub next-requires-clause-state : goal.next-requires-clause-state
next-requires-clause-state c = state_keeps c.args.n c.loop-made._made c.loop-made.g c.loop-made.invariant

pub loop-made-preserved : goal.loop-made-preserved
loop-made-preserved c =
    goes_on c.args.n c.loop-made._made c.loop-made.g c.loop-made.invariant c.next.new.self c.in_ok-next.ensures.after

pub returns : goal.returns
returns c = state_keeps c.args.n c.loop-made._made c.loop-made.g c.loop-made.invariant
