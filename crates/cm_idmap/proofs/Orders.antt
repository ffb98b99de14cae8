-- Lists of extents in the order of one side: what their neighbours tell, and when no two have an id in common.
use Rattle.std.proofs.Common.{◌≡◌, ℕ, zero, suc, ◌+◌, ◌<◌, ◌≤◌, ◌⊎◌, true, false, List, [], ◌∷◌, subst, ap, inl, inr, length, arith, slice_index_or, add-one}
use Rattle.std.specs.Prelude.{All}
use Rattle.std.specs.List.{AllAdjacentBelow}
use Rattle.std.specs.List.Sorted.{IsNonDecreasingBy}
use Rattle.std.proofs.lemmas.Bool.{cases_lt, and_from, lt-ltb}
use Rattle.model_cred.specs.IdMap.{Extent}
use Rattle.model_cred.specs.MapFault.{IsMap, ranges_meet}
use Rattle.cm_idmap.specs.declared.side.Side.{Side}
use Rattle.cm_idmap.specs.declared.side.Side.TheVariants.{Inside, Outside}
use Rattle.cm_idmap.specs.Sides.{first_of, AscendsOn}
use Rattle.cm_idmap.proofs.Sides.{Apart, AllApart}
use Rattle.cm_idmap.proofs.Faultless.{map_apart, map_some}

-- the second begins after the ids of the first
abbrev pub After : Side → Extent → Extent → Type 0
After side e f = first_of side e + e.length ≤ first_of side f

-- neighbours tell of all that are further apart
pub ascends_by_neighbours : (side : Side) (list : List Extent) → AllAdjacentBelow (After side) list (length list) → AscendsOn side list
ascends_by_neighbours side list next i zero d less within = absurd (omega (arith, less))
ascends_by_neighbours side list next i (suc j) d less within =
    let step : After side (slice_index_or list j d) (slice_index_or list (suc j) d) = rw add-one at (next j d (omega (arith, within))) in
    elim (cases_lt i j) [
      | inl far ↦ let before = ascends_by_neighbours side list next i j d far (omega (arith, within)) in omega (arith, step, before)
      | inr near ↦ let it : j ≡ i = omega (arith, near, less) in subst (λ k. After side (slice_index_or list k d) (slice_index_or list (suc j) d)) it step
    ]

-- ---- no id in common
after_apart : (first count other other_count : ℕ) → first + count ≤ other → ranges_meet first count other other_count ≡ false
after_apart first count other other_count after = grind (arith, after)

apart_after : (first count other other_count : ℕ) → 0 < other_count → first ≤ other → ranges_meet first count other other_count ≡ false → first + count ≤ other
apart_after first count other other_count some low apart =
    elim (cases_lt other (first + count)) [
      | inl below ↦
          let meet : ranges_meet first count other other_count ≡ true
          = and_from _ _ (lt-ltb first (other + other_count) (omega arith)) (lt-ltb other (first + count) below) in
          absurd (cc)
      | inr past ↦ past
    ]

-- in a list in order none has an id in common with another
pub apart_in_order : (side : Side) (list : List Extent) → AscendsOn side list → AllApart (first_of side) list
apart_in_order side [] order = tt
apart_in_order side (e ∷ list) order = (
  λ k d below. after_apart _ _ _ _ (order 0 (suc k) d (omega arith) (omega (arith, below))),
  apart_in_order side list (λ i j d less within. order (suc i) (suc j) d (omega (arith, less)) (omega (arith, within))),
)

apart_at : (side : Side) (list : List Extent) → AllApart (first_of side) list → (i j : ℕ) (d : Extent) → i < j → j < length list
    → Apart (first_of side) (slice_index_or list i d) (slice_index_or list j d)
apart_at side [] apart i j d less within = absurd (omega (arith, within))
apart_at side (e ∷ list) apart i zero d less within = absurd (omega (arith, less))
apart_at side (e ∷ list) apart zero (suc j) d less within = apart.0 j d (omega (arith, within))
apart_at side (e ∷ list) apart (suc i) (suc j) d less within = apart_at side list apart.1 i j d (omega (arith, less)) (omega (arith, within))

-- a list none of whose extents has an id in common with another, nor is without ids, is in order where their first ids rise
pub order_of_apart : (side : Side) (list : List Extent) → All (λ (e : Extent). 0 < e.length) list → AllApart (first_of side) list
    → IsNonDecreasingBy (first_of side) list → AscendsOn side list
order_of_apart side list some apart rises i j d less within =
    apart_after _ _ _ _ (some j d within) (rises i j d (omega (arith, less)) within) (apart_at side list apart i j d less within)

-- the two sides of a map
pub map_apart_on : (side : Side) (list : List Extent) → IsMap list → AllApart (first_of side) list
map_apart_on Inside list is = (map_apart list is).0
map_apart_on Outside list is = (map_apart list is).1

-- a map whose first ids rise is in order
pub order_of_map : (side : Side) (list : List Extent) → IsMap list → IsNonDecreasingBy (first_of side) list → AscendsOn side list
order_of_map side list is rises = order_of_apart side list (map_some list is) (map_apart_on side list is) rises

-- so is a list without an extent
pub order_of_table : (side : Side) (list : List Extent) → (list ≡ []) ⊎ IsMap list → IsNonDecreasingBy (first_of side) list → AscendsOn side list
order_of_table side list (inl none) rises = λ i j d less within. absurd (omega (arith, within, ap length none))
order_of_table side list (inr is) rises = order_of_map side list is rises
