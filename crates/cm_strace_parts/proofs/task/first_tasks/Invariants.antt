use Rattle.std.proofs.Common.{◌≡◌, map, take}
use Rattle.cm_strace_parts.proofs.task.first_tasks.Given as goal
use Rattle.model_strace.specs.Parts.{first_task}

abbrev pub invariant-loop-p : goal.invariant-loop-p
invariant-loop-p l = l.made.items ≡ map first_task (take l.p-index l.list)
