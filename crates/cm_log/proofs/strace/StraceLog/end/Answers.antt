use Rattle.std.proofs.Common.{None}
use Rattle.cm_declared.specs.World.{world_of}
use Rattle.cm_lines.specs.Cut.{ends_by}
use Rattle.cm_log.proofs.Counted.{counted_cut_off, counted_end_if}
use Rattle.cm_log.proofs.LeftAfter.{again_at, again_if, told_cut_off, told_if_over}
use Rattle.cm_log.proofs.strace.StraceLog.end.Goals as goal
use Rattle.model_strace.specs.Rest.{rest}

pub returns-in-Some-clause-told : goal.returns-in-Some-clause-told
returns-in-Some-clause-told c cut =
    rw (c.in-Some.is, c.clear.ensures.items)
    (told_cut_off (world_of c.args.w.now) c.in-Some.past c.break_off.result c.args.self.now.tracer c.break_off.new.self
    cut c.break_off.ensures.over
    c.break_off.ensures.at (c.break_off.ensures.told (world_of c.args.w.now) cut))

pub returns-in-Some-clause-again : goal.returns-in-Some-clause-again
returns-in-Some-clause-again c cut = again_at
    (world_of c.args.w.now) c.break_off.result c.break_off.new.self cut c.break_off.ensures.at

pub returns-in-Some-clause-counts : goal.returns-in-Some-clause-counts
returns-in-Some-clause-counts c =
    counted_cut_off c.in-Some.past c.args.self.now
    (record { tracer = c.break_off.new.self; events = c.clear.new.self }) c.clear.ensures.items
    c.break_off.ensures.after

pub returns-in-None-clause-told : goal.returns-in-None-clause-told
returns-in-None-clause-told c =
    let w = world_of c.args.w.now in
    rw c.in-None.is
    (told_if_over w c.finish.new.self c.finish.result c.finish.new.events.items
    (rest w c.args.self.now.tracer (ends_by None)) c.finish.ensures.told c.finish.ensures.over)

pub returns-in-None-clause-again : goal.returns-in-None-clause-again
returns-in-None-clause-again c =
    again_if (world_of c.args.w.now) c.finish.new.self c.finish.result c.finish.ensures.at

pub returns-in-None-clause-counts : goal.returns-in-None-clause-counts
returns-in-None-clause-counts c =
    counted_end_if (world_of c.args.w.now) c.finish.result c.args.self.now
    (record { tracer = c.finish.new.self; events = c.finish.new.events })
    c.finish.ensures.after c.finish.ensures.told
