use Rattle.std.proofs.Common.{◌≡◌, ◌+◌, ◌≤◌, length}
use Rattle.cm_filter.specs.Filters.{no_filter}
use Rattle.cm_script.specs.Steps.{arguments_in, kinds_told}
use Rattle.cm_script.proofs.lists.read_kinds.Given as goal

-- what the rest gives with the kinds that were read is what the text gives
abbrev pub invariant-loop-token : goal.invariant-loop-token
invariant-loop-token l = record {
  told : kinds_told l.filter l.place (arguments_in l.rest) ≡ kinds_told no_filter 0 (arguments_in l.fn.text);
  within : l.place + length l.rest ≤ length l.fn.text;
}

abbrev pub decreases-loop-token : goal.decreases-loop-token
decreases-loop-token l = length l.rest
