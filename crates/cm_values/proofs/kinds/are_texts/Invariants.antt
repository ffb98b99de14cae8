use Rattle.std.proofs.Common.{◌≡◌, drop}
use Rattle.model_text.specs.Keys.{is_string}
use Rattle.model_text.specs.Toml.{all_items}
use Rattle.toml.specs.View.{items_view}
use Rattle.cm_values.proofs.kinds.are_texts.Given as goal

abbrev pub invariant-loop-value : goal.invariant-loop-value
invariant-loop-value l = all_items (is_string) (items_view (drop l.value-index l.values)) ≡ all_items (is_string) (items_view l.values)
