-- The drill goes on event by event, and its states are within the limits.
use Rattle.std.proofs.Common.{refl, sym, ◌∙◌, arith}
use Rattle.cm_drill.proofs.Counting.{goes_on, refused_few, refused_more, refused_same, state_keeps}
use Rattle.cm_drill.proofs.telling.drill.Goals as goal
use Rattle.cm_drill.proofs.telling.drill.Goals.{then-is_refused, else-is_refused}
use Rattle.model_drill.proofs.Counts.{drill_counts}
use Rattle.model_drill.specs.Drill.{Stand, events_from, stand_after}
use Rattle.model_drill.specs.Laws.{DrillCounts}

pub loop-made-init : goal.loop-made-init
unfolding stand_after events_from
loop-made-init c = (c.in_ok-g.ensures, refl)

pub next-requires-clause-state : goal.next-requires-clause-state
next-requires-clause-state c = state_keeps c.args.n c.loop-made._made c.loop-made.g c.loop-made.invariant.0

pub overflow_add-refused : goal.overflow_add-refused
overflow_add-refused c =
    let few = refused_few c.args.n c.loop-made._made c.loop-made.refused c.loop-made.invariant.1 in omega (arith, few)

pub loop-made-preserved : goal.loop-made-preserved
loop-made-preserved c = (
  goes_on c.args.n c.loop-made._made c.loop-made.g c.loop-made.invariant.0 c.next.new.self c.in_ok-e.ensures.after,
  elim c.if-is_refused.branch [
    | then-is_refused w ↦
        w.refused-is
        ∙ refused_more c.args.n c.loop-made._made c.loop-made.g c.loop-made.invariant.0 c.in_ok-e.e c.loop-made.refused
        c.in_ok-e.ensures.event c.loop-made.invariant.1 (sym c.is_refused.ensures ∙ w.if-is_refused.true)
    | else-is_refused w ↦
        w.refused-is
        ∙ refused_same c.args.n c.loop-made._made c.loop-made.g c.loop-made.invariant.0 c.in_ok-e.e c.loop-made.refused
        c.in_ok-e.ensures.event c.loop-made.invariant.1 (sym c.is_refused.ensures ∙ w.if-is_refused.false)
  ],
)

pub verdict_on-requires-clause-state : goal.verdict_on-requires-clause-state
verdict_on-requires-clause-state c =
    let at : Stand = record { number = c.g-2.inside.draws; state = c.g-2.inside.machine.state } in
    state_keeps c.args.n c.loop-made._made at (c.g-2.view_is ∙ c.loop-made.invariant.0)

pub count_live-requires : goal.count_live-requires
count_live-requires c =
    let at : Stand = record { number = c.g-2.inside.draws; state = c.g-2.inside.machine.state } in
    (state_keeps c.args.n c.loop-made._made at (c.g-2.view_is ∙ c.loop-made.invariant.0)).few_live

pub returns-clause-events : goal.returns-clause-events
unfolding DrillCounts
returns-clause-events c = sym (drill_counts c.args.n)
