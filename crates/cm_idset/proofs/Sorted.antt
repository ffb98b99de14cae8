-- Lists of intervals that were put in order.
use Rattle.std.proofs.Common.{◌≡◌, ℕ, suc, ◌≤◌, ◌||◌, Bool, List, [], ◌∷◌, refl, sym, ap, ◌∙◌, arith}
use Rattle.std.specs.Prelude.{All}
use Rattle.std.specs.List.{list_any}
use Rattle.std.specs.List.Sorted.{IsPermutation, IsNonDecreasingBy}
use Rattle.std.proofs.lemmas.List.Elements.{All-head, All-tail}
use Rattle.std.proofs.lemmas.List.Sorted.{All-permutation, list_any-IsPermutation}
use Rattle.model_cred.specs.Intervals.{Interval, is_between, ids_hold}
use Rattle.cm_idset.specs.Order.{InOrderFrom, IsOfIds, AreIds}

held_is_any : (list : List Interval) (id : ℕ) → ids_hold list id ≡ list_any (λ i. is_between i id) list
held_is_any [] id = refl
held_is_any (i ∷ list) id = ap (λ (b : Bool). is_between i id || b) (held_is_any list id)

-- the order of a list counts for nothing in what it holds
pub held_permuted : (old new : List Interval) → IsPermutation old new → (id : ℕ) → ids_hold new id ≡ ids_hold old id
held_permuted old new moved id =
    held_is_any new id ∙ sym (list_any-IsPermutation (λ (i : Interval). is_between i id) old new moved) ∙ sym (held_is_any old id)

order_from : (low : ℕ) (list : List Interval) → AreIds list → IsNonDecreasingBy (λ (i : Interval). i.first) list
    → All (λ (i : Interval). low ≤ i.first) list → InOrderFrom low list
order_from low [] ids up above = tt
order_from low (i ∷ list) ids up above =
    let here : IsOfIds i = All-head IsOfIds i list ids in (
      All-head (λ (i : Interval). low ≤ i.first) i list above,
      here.full,
      here.ids,
      order_from i.first list (All-tail IsOfIds i list ids)
          (λ k l d le below. up (suc k) (suc l) d (omega arith) (omega arith))
          (λ k d below. up 0 (suc k) d (omega arith) (omega arith)),
    )

-- sorted by where they begin, intervals of ids are in order
pub sorted_order : (old new : List Interval) → IsPermutation old new → AreIds old → IsNonDecreasingBy (λ (i : Interval). i.first) new → InOrderFrom 0 new
sorted_order old new moved ids up = order_from 0 new (All-permutation IsOfIds old new moved ids) up (λ k d below. omega arith)
