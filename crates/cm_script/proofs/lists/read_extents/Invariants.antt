use Rattle.std.proofs.Common.{◌≡◌, ◌+◌, ◌≤◌, length}
use Rattle.cm_script.proofs.Items.{after_items}
use Rattle.cm_script.specs.Steps.{arguments_in, extents_told}
use Rattle.cm_script.proofs.lists.read_extents.Given as goal

-- the extents that were read, and what the rest gives, are what the text gives
abbrev pub invariant-triples : goal.invariant-triples
invariant-triples l = record {
  told : after_items l.list.items (extents_told l.place (arguments_in l.rest)) ≡ extents_told 1 (arguments_in l.fn.text);
  within : l.place + length l.rest ≤ length l.fn.text + 1;
}

abbrev pub decreases-triples : goal.decreases-triples
decreases-triples l = length l.rest
