use Rattle.cm_strace_parts.specs.Slots.{NotesKnown}
use Rattle.cm_strace_parts.proofs.known.Known.renew.Given as goal

-- each that is noted so far is that of a process
abbrev pub invariant-loop-task : goal.invariant-loop-task
invariant-loop-task l = NotesKnown l.self l.tasks
