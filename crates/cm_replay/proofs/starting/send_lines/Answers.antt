use Rattle.std.proofs.Common.{◌∙◌, ◌++◌, map}
use Rattle.cm_io.proofs.Kept.{on_err}
use Rattle.cm_replay.proofs.StartLines.{start_step}
use Rattle.cm_report.proofs.Waiting.{sent_on, front_on, more_waits, front_of_more, waits_as}
use Rattle.cm_replay.proofs.starting.send_lines.Goals as goal
use Rattle.cm_declared.specs.World.{world_of}
use Rattle.cm_report.specs.Sent.{IsFront}
use Rattle.model_report.specs.Replay.{Credentials, text_of}

pub returns-in_err-send_full-clause-stopped : goal.returns-in_err-send_full-clause-stopped
returns-in_err-send_full-clause-stopped g c =
    let waits = start_step (world_of c.args.w.now) c.args.procs.now c.loop-p.p-index c.p-item.result c.loop-p.text.items
    c.put_process.new.text.items c.loop-p-test.true c.p-item.is c.in_ok-put_process.ensures in
    on_err _ _ (front_on (waits_as _ _ waits c.loop-p.invariant.sent) (front_of_more c.in_err-send_full.ensures.front _))

pub returns-in_err-put_process-clause-stopped : goal.returns-in_err-put_process-clause-stopped
returns-in_err-put_process-clause-stopped g c =
    let front : IsFront (g.K.Sink.written c.args.out.now) (g.K.Sink.written c.loop-p.out)
    (c.args.text.now.items ++ text_of (map (Credentials (world_of c.args.w.now)) c.args.procs.now)) = (_, c.loop-p.invariant.sent) in
    on_err _ _ front

pub loop-p-preserved : goal.loop-p-preserved
loop-p-preserved g c =
    let waits = start_step (world_of c.args.w.now) c.args.procs.now c.loop-p.p-index c.p-item.result c.loop-p.text.items
    c.put_process.new.text.items c.loop-p-test.true c.p-item.is c.in_ok-put_process.ensures in
    record {
      sent = sent_on (waits_as _ _ waits c.loop-p.invariant.sent) (more_waits c.in_ok-send_full.ensures.sent _);
      faults = c.in_ok-send_full.ensures.cause.ok ∙ c.loop-p.invariant.faults;
    }
