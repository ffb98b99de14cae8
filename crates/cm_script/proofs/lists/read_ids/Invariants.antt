use Rattle.std.proofs.Common.{◌≡◌, ◌+◌, ◌≤◌, length}
use Rattle.cm_script.proofs.Items.{after_items}
use Rattle.cm_script.specs.Steps.{arguments_in, ids_told}
use Rattle.cm_script.proofs.lists.read_ids.Given as goal

-- the ids that were read, and what the rest gives, are what the text gives
abbrev pub invariant-loop-token : goal.invariant-loop-token
invariant-loop-token l = record {
  told : after_items l.ids.items (ids_told l.place (arguments_in l.rest)) ≡ ids_told 0 (arguments_in l.fn.text);
  within : l.place + length l.rest ≤ length l.fn.text;
}

abbrev pub decreases-loop-token : goal.decreases-loop-token
decreases-loop-token l = length l.rest
