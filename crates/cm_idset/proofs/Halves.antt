-- An id looked up by halves: the first interval that doesn't end before it is the one that may hold it.
use Rattle.std.proofs.Common.{◌≡◌, ℕ, zero, suc, ◌+◌, ◌<◌, ◌≤◌, true, false, List, [], ◌∷◌, refl, sym, ◌∙◌, arith}
use Rattle.std.specs.Prelude.{IsTrue, nat_le, nat_lt, slice_get, All}
use Rattle.std.specs.Option.{option_map_or}
use Rattle.std.specs.List.Sorted.{IsPartitionedBy, IsPartitionPoint, IsNonDecreasingBy}
use Rattle.std.proofs.lemmas.Bool.{ltb-true, ltb-false}
use Rattle.std.proofs.lemmas.Bool.Decides.{nat_tests}
use Rattle.std.proofs.lemmas.List.Elements.{All-nil, All-cons, All-weaker}
use Rattle.std.proofs.lemmas.List.Sorted.{IsPartitionedBy-ltb}
use Rattle.model_cred.specs.Intervals.{Interval, ids_hold, ascend_from, IsCanonical}
use Rattle.model_cred.proofs.Intervals.{ascend_parts, none_below, rest_holds}

lasts_above : (low : ℕ) (list : List Interval) → IsTrue (ascend_from low list) → All (λ (i : Interval). low ≤ i.last) list
lasts_above low [] is = All-nil (λ (i : Interval). low ≤ i.last)
lasts_above low (i ∷ list) is =
    let a = ascend_parts low i list is in
    All-cons (λ (j : Interval). low ≤ j.last) i list (omega (arith, a.above, a.full))
    (All-weaker (λ (j : Interval). i.last + 2 ≤ j.last) (λ (j : Interval). low ≤ j.last) (λ j above. omega (arith, above, a.above, a.full)) list
    (lasts_above (i.last + 2) list a.rest))

lasts_rise : (low : ℕ) (list : List Interval) → IsTrue (ascend_from low list) → IsNonDecreasingBy (λ (i : Interval). i.last) list
lasts_rise low (i ∷ list) is zero zero d le below = omega arith
lasts_rise low (i ∷ list) is zero (suc l) d le below =
    let a = ascend_parts low i list is in omega (arith, lasts_above (i.last + 2) list a.rest l d (omega arith))
lasts_rise low (i ∷ list) is (suc k) (suc l) d le below = lasts_rise (i.last + 2) list (ascend_parts low i list is).rest k l d (omega arith) (omega arith)
lasts_rise low _ is _ _ d le below = absurd (omega arith)

-- the intervals that end before the id come first
pub ends_first : (list : List Interval) (id : ℕ) → IsCanonical list → IsPartitionedBy (λ (i : Interval). nat_lt i.last id) list
ends_first list id is = IsPartitionedBy-ltb (λ (i : Interval). i.last) list id (lasts_rise 0 list is)

-- the first of the others holds it where the list does
pub held_at : (low : ℕ) (list : List Interval) (id at : ℕ) → IsTrue (ascend_from low list)
    → IsPartitionPoint (λ (i : Interval). nat_lt i.last id ≡ true) (λ (i : Interval). nat_lt i.last id ≡ false) list at
    → option_map_or (λ (i : Interval). nat_le i.first id) (slice_get list at) false ≡ ids_hold list id
held_at low [] id at is point = refl
held_at low (i ∷ list) id zero is point =
    let not_before : id ≤ i.last = ltb-false i.last id (point.1 0 i (omega arith) (omega arith)) in
    let none : ids_hold list id ≡ false = none_below (i.last + 2) id list (ascend_parts low i list is).rest (omega arith) in
    grind (arith, nat_tests, none, not_before)
held_at low (i ∷ list) id (suc at) is point =
    let before : i.last < id = ltb-true i.last id (point.0 0 i (omega arith) (omega arith)) in
    held_at (i.last + 2) list id at (ascend_parts low i list is).rest
    (λ k d from to. point.0 (suc k) d (omega arith) (omega arith), λ k d from to. point.1 (suc k) d (omega arith) (omega arith))
    ∙ sym (rest_holds i list id before)
