use Rattle.std.proofs.Common.{◌≡◌, length}
use Rattle.cm_strace_values.proofs.flags.flags_among.Given as goal
use Rattle.cm_strace_text.specs.Depths.{arguments_in}
use Rattle.model_strace.specs.Flags.{flags_among}

-- no member before those that are left has flags
abbrev pub invariant-loop-member : goal.invariant-loop-member
invariant-loop-member l = flags_among (arguments_in l.left) ≡ flags_among (arguments_in l.members)

abbrev pub decreases-loop-member : goal.decreases-loop-member
decreases-loop-member l = length (arguments_in l.left)
