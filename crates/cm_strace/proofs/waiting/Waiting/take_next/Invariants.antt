use Rattle.std.proofs.Common.{◌≡◌, length}
use Rattle.cm_strace.proofs.waiting.Waiting.take_next.Given as goal
use Rattle.model_strace.specs.Lines.{next_line}

-- the pids that are left have the same next line
abbrev pub invariant-loop-pid : goal.invariant-loop-pid
invariant-loop-pid l = record {
  all : l.self.all ≡ l.initial.self.all;
  left : l.self.left ≡ l.initial.self.left;
  next : next_line l.parts.known l.self.left l.self.pids
      ≡ next_line l.parts.known l.initial.self.left l.initial.self.pids;
}

abbrev pub decreases-loop-pid : goal.decreases-loop-pid
decreases-loop-pid l = length l.self.pids
