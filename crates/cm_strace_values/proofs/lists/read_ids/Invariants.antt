use Rattle.std.proofs.Common.{◌≡◌, length}
use Rattle.cm_strace_values.proofs.Items.{after_ids}
use Rattle.cm_strace_values.proofs.lists.read_ids.Given as goal
use Rattle.cm_strace_text.specs.Depths.{arguments_in}
use Rattle.model_strace.specs.Numbers.{ids_of}

-- the ids that were read, and those of what is left, are those of all
abbrev pub invariant-loop-item : goal.invariant-loop-item
invariant-loop-item l = after_ids l.ids.items (ids_of (arguments_in l.left)) ≡ ids_of (arguments_in l.items)

abbrev pub decreases-loop-item : goal.decreases-loop-item
decreases-loop-item l = length (arguments_in l.left)
