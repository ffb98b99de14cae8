use Rattle.std.proofs.Common.{◌≡◌, length, map}
use Rattle.cm_strace_values.proofs.sets.named_bits.Given as goal
use Rattle.model_strace.specs.Marks.{barred, trimmed}
use Rattle.model_strace.specs.Numbers.{union_with, securebit, union_of}

abbrev pub invariant-loop-name : goal.invariant-loop-name
invariant-loop-name l = union_with securebit l.bits (map trimmed (barred l.rest)) ≡ union_of securebit l.text

abbrev pub decreases-loop-name : goal.decreases-loop-name
decreases-loop-name l = length l.rest
