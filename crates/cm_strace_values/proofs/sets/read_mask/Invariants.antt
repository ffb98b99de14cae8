use Rattle.std.proofs.Common.{◌≡◌, length, map}
use Rattle.cm_strace_values.proofs.sets.read_mask.Given as goal
use Rattle.model_strace.specs.Marks.{barred, trimmed}
use Rattle.model_strace.specs.Numbers.{union_with, mask_term, mask}

abbrev pub invariant-loop-term : goal.invariant-loop-term
invariant-loop-term l = union_with mask_term l.set (map trimmed (barred l.rest)) ≡ mask l.text

abbrev pub decreases-loop-term : goal.decreases-loop-term
decreases-loop-term l = length l.rest
