use Rattle.std.proofs.Common.{length}
use Rattle.cm_filter.specs.Filters.{IsFilter}
use Rattle.cm_script.proofs.own.lists.named_filter.Given as goal

-- the number has bits of kinds alone
abbrev pub invariant-loop-kind : goal.invariant-loop-kind
invariant-loop-kind l = IsFilter l.filter

abbrev pub decreases-loop-kind : goal.decreases-loop-kind
decreases-loop-kind l = length l.rest
