-- The items of a list, one after another.
use Rattle.std.proofs.Common.{◌≡◌, ℕ, ◌+◌, ◌<◌, List, ◌∷◌, drop, get_or, length, sym, ap, ◌∙◌}
use Rattle.std.proofs.lemmas.List.{drop_more}

-- what is left of a list from a place on, as the item there and the rest
pub next_of : {A : Type 0} → (list : List A) (k : ℕ) (item : A) → k < length list → item ≡ get_or list k item
    → drop k list ≡ item ∷ drop (k + 1) list
next_of {A} list k item below is = drop_more list k item below ∙ ap (λ (head : A). head ∷ drop (k + 1) list) (sym is)
