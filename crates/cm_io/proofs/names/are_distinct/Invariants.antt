use Rattle.std.proofs.Common.{◌≡◌, length}
use Rattle.cm_io.specs.Names.{are_distinct}
use Rattle.cm_io.proofs.names.are_distinct.Given as goal

-- no name that was passed stands again after it
abbrev pub invariant-loop-rest : goal.invariant-loop-rest
invariant-loop-rest l = are_distinct l.rest ≡ are_distinct l.names

abbrev pub decreases-loop-rest : goal.decreases-loop-rest
decreases-loop-rest l = length l.rest
