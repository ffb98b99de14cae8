-- A list of intervals as its first one and the rest.
use Rattle.std.proofs.Common.{◌≡◌, ℕ, ◌+◌, ◌-◌, ◌<◌, List, ◌∷◌, length, take, drop, get_or, sym, ap, ◌∙◌}
use Rattle.std.proofs.lemmas.List.{drop_more}
use Rattle.std.proofs.lemmas.Slice.{first_rest}
use Rattle.model_cred.specs.Intervals.{Interval}

-- what a pattern of the first element and the rest gives as the rest
abbrev pub rest_of : List Interval → List Interval
rest_of list = take (length list - 1) (drop 1 list)

pub first_and_rest : (list : List Interval) (i : Interval) → 0 < length list → i ≡ get_or list 0 i → list ≡ i ∷ rest_of list
first_and_rest list i some is = first_rest list i some ∙ ap (λ (head : Interval). head ∷ rest_of list) (sym is)

-- what is left of a list from a place on, as the element there and the rest
pub next_of : (list : List Interval) (k : ℕ) (i : Interval) → k < length list → i ≡ get_or list k i → drop k list ≡ i ∷ drop (k + 1) list
next_of list k i below is = drop_more list k i below ∙ ap (λ (head : Interval). head ∷ drop (k + 1) list) (sym is)
