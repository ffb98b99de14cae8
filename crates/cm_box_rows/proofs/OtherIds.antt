-- What members of a row can do with one file.
use Rattle.std.proofs.Common.{◌≡◌, ℕ, ◌≤◌, ◌<◌, ◌+◌, ◌==◌, ◌&&◌, false, not, List, [], ◌∷◌, Some, sym}
use Rattle.std.proofs.Common.{ap, inl, inr, arith, leb, drop, get_or, length, subst}
use Rattle.std.specs.Prelude.{◌↔◌}
use Rattle.std.proofs.lemmas.Bool.{cases_Bool, false≢true, and_from, or_left, le-leb}
use Rattle.std.proofs.lemmas.List.{drop_all}
use Rattle.model_cred.specs.Intervals.{Interval, IsCanonical, is_between, ids_hold}
use Rattle.cm_idset.proofs.Elements.{of_ids_at}
use Rattle.cm_idset.proofs.Rests.{next_of}
use Rattle.cm_idset.specs.Held.{Held}
use Rattle.model_box.specs.Files.{HasOther}

-- an interval that has an id holds both of its ends
holds_first : (i : Interval) (rest : List Interval) → i.first ≤ i.last → Held (i ∷ rest) i.first
holds_first i rest full =
    or_left (is_between i i.first) (ids_hold rest i.first)
    (and_from (leb i.first i.first) (leb i.first i.last) (le-leb i.first i.first (omega arith)) (le-leb i.first i.last full))

holds_last : (i : Interval) (rest : List Interval) → i.first ≤ i.last → Held (i ∷ rest) i.last
holds_last i rest full =
    or_left (is_between i i.last) (ids_hold rest i.last)
    (and_from (leb i.first i.last) (leb i.last i.last) (le-leb i.first i.last full) (le-leb i.last i.last (omega arith)))

-- an interval that isn't just the id has another one
pub other_here : (i : Interval) (rest : List Interval) (id : ℕ) → i.first ≤ i.last → (i.first == id && i.last == id) ≡ false
    → HasOther (Held (i ∷ rest)) (Some id)
other_here i rest id full other = elim (cases_Bool (i.first == id)) [
  | inr apart ↦ (i.first, holds_first i rest full, ap not apart)
  | inl same ↦
      let last : (i.last == id) ≡ false = rw same at other in
      (i.last, holds_last i rest full, ap not last)
]

-- a set of none has no other one
pub no_other : (id : ℕ) → HasOther (Held []) (Some id) → ⊥
no_other id (x, held, other) = false≢true held

-- a walk over the list: the rest has another id where the list has
abbrev pub OtherInRest : List Interval → ℕ → ℕ → Type 0
OtherInRest list k id = HasOther (Held (drop k list)) (Some id) ↔ HasOther (Held list) (Some id)

pub other_found : (list : List Interval) (k : ℕ) (i : Interval) (id : ℕ) → IsCanonical list → k < length list
    → i ≡ get_or list k i → OtherInRest list k id → (i.first == id && i.last == id) ≡ false
    → HasOther (Held list) (Some id)
other_found list k i id canonical low is rest other =
    let at : drop k list ≡ i ∷ drop (k + 1) list = next_of list k i low is in
    let full : i.first ≤ i.last = (of_ids_at list k i canonical low is).full in
    let here : HasOther (Held (i ∷ drop (k + 1) list)) (Some id) = other_here i (drop (k + 1) list) id full other in
    rest.0 (subst (λ (l : List Interval). HasOther (Held l) (Some id)) (sym at) here)

pub other_missed : (list : List Interval) (k id : ℕ) → length list ≤ k → OtherInRest list k id
    → ¬ HasOther (Held list) (Some id)
other_missed list k id past rest other =
    no_other id (subst (λ (l : List Interval). HasOther (Held l) (Some id)) (drop_all k list past) (rest.1 other))
