use Rattle.std.proofs.Common.{◌∙◌, ◌+◌, List, ap, drop, sym}
use Rattle.cm_confirm.proofs.Endings.{all_taken, ends_with, goes_on}
use Rattle.cm_confirm.proofs.confirming.take_told.Goals as goal
use Rattle.cm_confirm.specs.Confirmed.{confirmed_of}
use Rattle.cm_declared.specs.World.{world_of}
use Rattle.cm_log.proofs.ToldEvents.{told_from, told_on}
use Rattle.cm_log.specs.Left.{told_then}
use Rattle.cm_state.specs.Right.{right_of}
use Rattle.model_text.specs.Reading.{Placed}

pub loop-event-preserved : goal.loop-event-preserved
loop-event-preserved c =
    let i = c.loop-event.event-index in
    let e = c.event-item.result in
    let told = c.args.told.now in
    let left_ = told_from told i e c.loop-event-test.true c.event-item.is in
    let goes = rw c.in-Goes.is at c.in_ok-take_event.ensures in
    record {
      same = λ later. c.loop-event.invariant.same later
          ∙ goes_on (world_of c.args.w.now) c.loop-event.machine.state c.loop-event.members (right_of c.args.right.now)
          (told_then (drop i told) c.args.stage later) (told_then (drop (i + 1) told) c.args.stage later) e
          (ap (λ (es : List Placed). told_then es c.args.stage later) left_
          ∙ told_on e (drop (i + 1) told) c.args.stage later)
          c.take_event.new.machine.state c.take_event.new.members goes;
      within = goes.within;
    }

pub returns-in-Ends-clause-turn : goal.returns-in-Ends-clause-turn
returns-in-Ends-clause-turn c later =
    let i = c.loop-event.event-index in
    let e = c.event-item.result in
    let told = c.args.told.now in
    let left_ = told_from told i e c.loop-event-test.true c.event-item.is in
    c.loop-event.invariant.same later
    ∙ ends_with (world_of c.args.w.now) c.loop-event.machine.state c.loop-event.members (right_of c.args.right.now)
    (told_then (drop i told) c.args.stage later) (told_then (drop (i + 1) told) c.args.stage later) e
    (ap (λ (es : List Placed). told_then es c.args.stage later) left_
    ∙ told_on e (drop (i + 1) told) c.args.stage later)
    (confirmed_of c.in-Ends.confirmed) (rw c.in-Ends.is at c.in_ok-take_event.ensures)

-- after the last event
pub returns-in-Going-clause-turn : goal.returns-in-Going-clause-turn
returns-in-Going-clause-turn c later = (
  c.loop-event.invariant.same later
      ∙ all_taken (world_of c.args.w.now) c.loop-event.machine.state c.loop-event.members (right_of c.args.right.now) c.args.told.now
      c.loop-event.event-index c.args.stage _ later c.loop-event-test.false c.in-Going.is,
  c.loop-event.invariant.within,
)

pub returns-in-Stopped-clause-turn : goal.returns-in-Stopped-clause-turn
returns-in-Stopped-clause-turn c later =
    c.loop-event.invariant.same later
    ∙ all_taken (world_of c.args.w.now) c.loop-event.machine.state c.loop-event.members (right_of c.args.right.now) c.args.told.now
    c.loop-event.event-index c.args.stage _ later c.loop-event-test.false c.in-Stopped.is
    ∙ sym c.stop_run.ensures

pub returns-in-Finished-clause-turn : goal.returns-in-Finished-clause-turn
returns-in-Finished-clause-turn c later =
    c.loop-event.invariant.same later
    ∙ all_taken (world_of c.args.w.now) c.loop-event.machine.state c.loop-event.members (right_of c.args.right.now) c.args.told.now
    c.loop-event.event-index c.args.stage _ later c.loop-event-test.false c.in-Finished.is
    ∙ sym c.end_run.ensures
