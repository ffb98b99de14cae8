use Rattle.std.proofs.Common.{◌≡◌, length}
use Rattle.std.specs.Prelude.{filter_map}
use Rattle.cm_strace_values.proofs.flags.first_flags.Given as goal
use Rattle.cm_strace_text.specs.Depths.{arguments_in}
use Rattle.model_strace.specs.Flags.{first_of_list, flags_in}

-- no argument before those that are left has flags
abbrev pub invariant-loop-argument : goal.invariant-loop-argument
invariant-loop-argument l =
    first_of_list (filter_map flags_in (arguments_in l.left))
    ≡ first_of_list (filter_map flags_in (arguments_in l.arguments))

abbrev pub decreases-loop-argument : goal.decreases-loop-argument
decreases-loop-argument l = length (arguments_in l.left)
