use Rattle.std.proofs.Common.{map}
use Rattle.std.specs.String.{string_bytes}
use Rattle.model_text.specs.Toml.{texts_among}
use Rattle.toml.specs.View.{items_view}
use Rattle.cm_world.proofs.Texts.{texts_more}
use Rattle.cm_world.proofs.filter.texts_among.Goals as goal

pub loop-value-preserved : goal.loop-value-preserved
loop-value-preserved c =
    texts_more c.args.values.now c.loop-value.value-index c.value-item.result (map string_bytes c.loop-value.texts.items)
    (map string_bytes c.in_ok-texts.texts.items) (texts_among (items_view c.args.values.now))
    c.loop-value-test.true c.value-item.is
    c.in_ok-texts.ensures c.loop-value.invariant
