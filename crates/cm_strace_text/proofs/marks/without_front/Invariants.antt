use Rattle.std.proofs.Common.{◌≡◌, length}
use Rattle.cm_strace_text.proofs.marks.without_front.Given as goal
use Rattle.model_strace.specs.Marks.{without_front}

abbrev pub invariant-loop-rest : goal.invariant-loop-rest
invariant-loop-rest l = without_front l.rest ≡ without_front l.fn.text

abbrev pub decreases-loop-rest : goal.decreases-loop-rest
decreases-loop-rest l = length l.rest
