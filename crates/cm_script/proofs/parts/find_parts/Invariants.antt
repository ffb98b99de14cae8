use Rattle.std.proofs.Common.{◌≡◌, ◌+◌, ◌≤◌, length}
use Rattle.cm_script.proofs.parts.find_parts.Given as goal
use Rattle.cm_script.specs.Steps.{arguments_in, outcome_of}
use Rattle.model_text.specs.Cut.{tokens_of}

-- the result is that of what is left, and the arguments that were counted stand before those of what is left
abbrev pub invariant-loop-token : goal.invariant-loop-token
invariant-loop-token l = record {
  outcome : outcome_of (tokens_of l.rest) ≡ outcome_of (tokens_of l.fn.text);
  count : l.count + length (arguments_in l.rest) ≡ length (arguments_in l.fn.text);
  within : l.count + length l.rest ≤ length l.fn.text;
}

abbrev pub decreases-loop-token : goal.decreases-loop-token
decreases-loop-token l = length l.rest
