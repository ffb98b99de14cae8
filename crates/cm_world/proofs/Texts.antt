-- The texts among the items of an array, item by item.
use Rattle.std.proofs.Common.{◌≡◌, ℕ, ◌+◌, ◌<◌, List, [], ◌∷◌, ◌++◌, length, drop, get_or, refl, sym, ap, ◌∙◌}
use Rattle.std.proofs.lemmas.List.{append-nil, append_assoc, drop_more}
use Rattle.model_text.specs.Toml.{texts_among}
use Rattle.toml.specs.Data.{Data, string, Items, no_items, item}
use Rattle.toml.specs.View.{items_view, view}
use Rattle.toml.specs.declared.value.Value.{Value}

-- no text more
pub and_nothing : (texts : List (List ℕ)) → texts ++ [] ≡ texts
and_nothing texts = append-nil texts

-- the first item, and the others
one_among : (value : Data) (values : Items) → texts_among (item value no_items) ++ texts_among values ≡ texts_among (item value values)
one_among (string text) values = refl
one_among _ values = refl

-- the texts up to one item, and those from it on, are those up to the next, and those from that on
pub texts_more : (values : List Value) (at : ℕ) (value : Value) (before after all : List (List ℕ)) → at < length values
    → value ≡ get_or values at value → after ≡ before ++ texts_among (item (view value) no_items)
    → before ++ texts_among (items_view (drop at values)) ≡ all
    → after ++ texts_among (items_view (drop (at + 1) values)) ≡ all
texts_more values at value before after all within here more is =
    let rest : drop at values ≡ value ∷ drop (at + 1) values = drop_more values at value within ∙ cc in
    ap (λ texts. texts ++ texts_among (items_view (drop (at + 1) values))) more
    ∙ append_assoc before (texts_among (item (view value) no_items)) (texts_among (items_view (drop (at + 1) values)))
    ∙ ap (λ texts. before ++ texts) (one_among (view value) (items_view (drop (at + 1) values)))
    ∙ ap (λ vs. before ++ texts_among (items_view vs)) (sym rest)
    ∙ is
