use Rattle.std.proofs.Common.{◌≡◌, ◌++◌, drop, map}
use Rattle.std.specs.String.{string_bytes}
use Rattle.model_text.specs.Toml.{texts_among}
use Rattle.toml.specs.View.{items_view}
use Rattle.cm_world.proofs.filter.texts_among.Given as goal

abbrev pub invariant-loop-value : goal.invariant-loop-value
invariant-loop-value l =
    map string_bytes l.texts.items ++ texts_among (items_view (drop l.value-index l.values)) ≡ texts_among (items_view l.values)
