-- The drill goes on event by event, and the lines with it.
use Rattle.std.proofs.Common.{ℕ, List, [], ◌∷◌, ◌++◌, ap, ◌∙◌}
use Rattle.cm_declared.specs.World.{world_of}
use Rattle.cm_drill.proofs.Counting.{goes_on, state_keeps, text_more}
use Rattle.cm_drill.proofs.telling.drill_log.Goals as goal
use Rattle.model_drill.specs.Drill.{events_from, stand_after}

pub loop-made-init : goal.loop-made-init
unfolding stand_after events_from
loop-made-init c = (c.in_ok-g.ensures, c.new-text.ensures.items)

pub next-requires-clause-state : goal.next-requires-clause-state
next-requires-clause-state c = state_keeps c.args.n c.loop-made._made c.loop-made.g c.loop-made.invariant.0

pub loop-made-preserved : goal.loop-made-preserved
loop-made-preserved c = (
  goes_on c.args.n c.loop-made._made c.loop-made.g c.loop-made.invariant.0 c.next.new.self c.in_ok-e.ensures.after,
  text_more c.args.n c.loop-made._made c.loop-made.g c.loop-made.invariant.0 c.in_ok-e.e (world_of c.in_ok-w.w)
      c.loop-made.text.items c.push.new.self.items c.in_ok-e.ensures.event c.in_ok-w.ensures c.loop-made.invariant.1
      (c.in_ok-push.ensures.items ∙ ap (λ (text : List ℕ). text ++ 10 ∷ []) c.in_ok-put_line.ensures),
)
