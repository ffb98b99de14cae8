use Rattle.std.proofs.Common.{◌≡◌, length}
use Rattle.cm_strace_values.proofs.flags.has_flag.Given as goal
use Rattle.model_strace.specs.Flags.{has_flag}

-- the word stands among what is left exactly where it stands among all
abbrev pub invariant-loop-flag : goal.invariant-loop-flag
invariant-loop-flag l = has_flag l.word l.rest ≡ has_flag l.word l.flags

abbrev pub decreases-loop-flag : goal.decreases-loop-flag
decreases-loop-flag l = length l.rest
