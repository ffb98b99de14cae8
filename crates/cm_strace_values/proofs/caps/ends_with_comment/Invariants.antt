use Rattle.std.proofs.Common.{◌≡◌, length}
use Rattle.cm_strace_text.specs.Depths.{arguments_in}
use Rattle.cm_strace_values.proofs.caps.ends_with_comment.Given as goal
use Rattle.model_strace.specs.Numbers.{ends_with_comment}

-- what is left tells what all of it tells
abbrev pub invariant-loop-text : goal.invariant-loop-text
invariant-loop-text l = ends_with_comment (arguments_in l.left) ≡ ends_with_comment (arguments_in l.arguments)

abbrev pub decreases-loop-text : goal.decreases-loop-text
decreases-loop-text l = length (arguments_in l.left)
