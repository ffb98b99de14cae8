use Rattle.std.proofs.Common.{◌≡◌, ◌++◌, drop}
use Rattle.model_text.specs.MapText.{extents_listed}
use Rattle.toml.specs.View.{items_view}
use Rattle.cm_values.proofs.extents.extents_listed.Given as goal

abbrev pub invariant-loop-value : goal.invariant-loop-value
invariant-loop-value l = l.list.items ++ extents_listed (items_view (drop l.value-index l.values)) ≡ extents_listed (items_view l.values)
