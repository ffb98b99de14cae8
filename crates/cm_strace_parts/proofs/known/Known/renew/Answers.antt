use Rattle.std.proofs.Common.{ap}
use Rattle.cm_strace_parts.proofs.Noted.{listed_noted, none_noted_of}
use Rattle.cm_strace_parts.proofs.known.Known.renew.Goals as goal
use Rattle.model_strace.specs.Parts.{Task}

pub loop-task-init : goal.loop-task-init
loop-task-init c = none_noted_of c.clear.new.self c.args.tasks.now (λ q. c.clear.ensures q)

pub loop-task-preserved : goal.loop-task-preserved
loop-task-preserved c =
    listed_noted c.loop-task.self c.note.new.self c.args.tasks.now c.loop-task.task-index c.task.inside.pid
    c.task-item.result c.loop-task-test.true c.task-item.is (ap (λ (t : Task). t.pid) c.task.view_is)
    c.note.ensures.others c.loop-task.invariant
