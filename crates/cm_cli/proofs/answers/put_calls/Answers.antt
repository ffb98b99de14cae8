use Rattle.std.proofs.Common.{◌∙◌, sym}
use Rattle.cm_cli.proofs.RunText.{call_step}
use Rattle.cm_cli.proofs.answers.put_calls.Goals as goal
use Rattle.cm_declared.specs.World.{world_of}

pub loop-event-preserved : goal.loop-event-preserved
loop-event-preserved c =
    sym (call_step (world_of c.args.w.now) c.args.run.now c.loop-event.event-index c.event-item.result
    c.loop-event.text.items
    c.put_call_line.new.text.items c.loop-event-test.true c.event-item.is c.in_ok-put_call_line.ensures)
    ∙ c.loop-event.invariant
