-- Lists of intervals: what ascends, what is held, and that a canonical list is told by what it holds.
use Rattle.std.proofs.Common.{◌≡◌, ℕ, ◌+◌, ◌<◌, ◌≤◌, ◌&&◌, false, List, [], ◌∷◌, refl, sym, ap, ◌∙◌, inl, inr, arith}
use Rattle.std.specs.Prelude.{IsTrue, nat_le, nat_lt}
use Rattle.std.proofs.lemmas.Bool.{cases_lt, false_from_ne_true, and_parts, or_cases, or_left, leb-true, ltb-true}
use Rattle.std.proofs.lemmas.Bool.Decides.{nat_tests}
use Rattle.cm_base.specs.Limits.{id_count}
use Rattle.model_cred.specs.Intervals.{Interval, is_between, ids_hold, ascend_from, IsCanonical}

-- The intervals, of which this one is the first, ascend from a number on.
pub record Ascends (low : ℕ) (i : Interval) (list : List Interval) : Type 0 where
  pub above : low ≤ i.first
  pub full : i.first ≤ i.last
  pub ids : i.last < id_count
  pub rest : IsTrue (ascend_from (i.last + 2) list)

-- an id that an interval holds lies between its ends, and the other way
pub between_parts : (i : Interval) (id : ℕ) → IsTrue (is_between i id) → (i.first ≤ id) × (id ≤ i.last)
between_parts i id is = grind (arith, nat_tests)

pub between_from : (i : Interval) (id : ℕ) → i.first ≤ id → id ≤ i.last → IsTrue (is_between i id)
between_from i id low high = grind (arith, nat_tests)

pub ascend_parts : (low : ℕ) (i : Interval) (list : List Interval) → IsTrue (ascend_from low (i ∷ list)) → Ascends low i list
ascend_parts low i list is =
    let whole = and_parts (nat_le low i.first && nat_le i.first i.last && nat_lt i.last id_count) (ascend_from (i.last + 2) list) is in
    let both = and_parts (nat_le low i.first && nat_le i.first i.last) (nat_lt i.last id_count) whole.0 in
    let ends = and_parts (nat_le low i.first) (nat_le i.first i.last) both.0 in
    record { above = leb-true low i.first ends.0; full = leb-true i.first i.last ends.1; ids = ltb-true i.last id_count both.1; rest = whole.1 }

pub ascend_made : (low : ℕ) (i : Interval) (list : List Interval) → Ascends low i list → IsTrue (ascend_from low (i ∷ list))
ascend_made low i list a = grind (arith, nat_tests, a)

-- intervals that ascend from a number on do so from a lower one
pub ascend_lower : (low high : ℕ) (list : List Interval) → low ≤ high → IsTrue (ascend_from high list) → IsTrue (ascend_from low list)
ascend_lower low high [] le is = refl
ascend_lower low high (i ∷ list) le is =
    let a : Ascends high i list = ascend_parts high i list is in
    ascend_made low i list (record { above = omega (arith, a.above); full = a.full; ids = a.ids; rest = a.rest })

-- what intervals hold that ascend from a number on are ids from there on
pub held_above : (low id : ℕ) (list : List Interval) → IsTrue (ascend_from low list) → IsTrue (ids_hold list id) → (low ≤ id) × (id < id_count)
held_above low id [] is held = absurd (cc)
held_above low id (i ∷ list) is held =
    let a : Ascends low i list = ascend_parts low i list is in
    elim (or_cases (is_between i id) (ids_hold list id) held) [
      | inl here ↦ let b = between_parts i id here in (omega (arith, a.above, b.0), omega (arith, a.ids, b.1))
      | inr later ↦ let rest = held_above (i.last + 2) id list a.rest later in (omega (arith, a.above, a.full, rest.0), rest.1)
    ]

-- so they hold nothing below it
pub none_below : (low id : ℕ) (list : List Interval) → IsTrue (ascend_from low list) → id < low → ids_hold list id ≡ false
none_below low id list is below = false_from_ne_true (ids_hold list id) (λ held. let above = held_above low id list is held in omega (arith, above.0))

-- the first interval's ids are held
pub first_held : (low : ℕ) (i : Interval) (list : List Interval) → Ascends low i list → (id : ℕ) → i.first ≤ id → id ≤ i.last → IsTrue (ids_hold (i ∷ list) id)
first_held low i list is id from to = or_left (is_between i id) (ids_hold list id) (between_from i id from to)

-- an interval holds nothing after its last id
pub none_after : (i : Interval) (id : ℕ) → i.last < id → is_between i id ≡ false
none_after i id after = grind (arith, nat_tests)

-- what lies after the first interval is held by the rest, or not at all
pub rest_holds : (i : Interval) (list : List Interval) (id : ℕ) → i.last < id → ids_hold (i ∷ list) id ≡ ids_hold list id
rest_holds i list id after = grind (arith, nat_tests)

-- intervals that ascend do so from where the first of them begins
pub from_first : (low : ℕ) (i : Interval) (list : List Interval) → IsTrue (ascend_from low (i ∷ list)) → IsTrue (ascend_from i.first (i ∷ list))
from_first low i list is =
    let a : Ascends low i list = ascend_parts low i list is in
    ascend_made i.first i list (record { above = omega arith; full = a.full; ids = a.ids; rest = a.rest })

-- what is left of a canonical list without its first interval is canonical
pub rest_canonical : (i : Interval) (list : List Interval) → IsCanonical (i ∷ list) → IsCanonical list
rest_canonical i list is = ascend_lower 0 (i.last + 2) list (omega arith) (ascend_parts 0 i list is).rest

-- ---- a canonical list is told by what it holds
abbrev of_ends : ℕ → ℕ → Interval
of_ends first last = record { first = first; last = last }

same_ends : (i j : Interval) → i.first ≡ j.first → i.last ≡ j.last → i ≡ j
same_ends i j first last = ap (λ (n : ℕ). of_ends n i.last) first ∙ ap (λ (n : ℕ). of_ends j.first n) last

-- the ids that intervals hold are held by others
abbrev Within : List Interval → List Interval → Type 0
Within a b = (id : ℕ) → IsTrue (ids_hold a id) → IsTrue (ids_hold b id)

-- what is held by intervals begins where the first of them does
begins : (i j : Interval) (a b : List Interval) (low high : ℕ) → Ascends low i a → Ascends high j b → Within (i ∷ a) (j ∷ b) → j.first ≤ i.first
begins i j a b low high is are within =
    let held : IsTrue (ids_hold (j ∷ b) i.first) = within i.first (first_held low i a is i.first (omega arith) is.full) in
    (held_above j.first i.first (j ∷ b) (from_first high j b (ascend_made high j b are)) held).0

-- and the first of them ends where the other does, at the latest
ends : (i j : Interval) (a b : List Interval) (low high : ℕ) → Ascends low i a → Ascends high j b → Within (i ∷ a) (j ∷ b) → i.first ≡ j.first → i.last ≤ j.last
ends i j a b low high is are within same = elim (cases_lt j.last i.last) [
  | inl past ↦
      let held : IsTrue (ids_hold (j ∷ b) (j.last + 1)) = within (j.last + 1) (first_held low i a is (j.last + 1) (omega (arith, are.full)) (omega arith)) in
      let later : IsTrue (ids_hold b (j.last + 1)) = sym (rest_holds j b (j.last + 1) (omega arith)) ∙ held in
      absurd (omega (arith, (held_above (j.last + 2) (j.last + 1) b are.rest later).0))
  | inr within_end ↦ within_end
]

-- two lists that ascend and hold the same are one
pub one_list : (low high : ℕ) (a b : List Interval) → IsTrue (ascend_from low a) → IsTrue (ascend_from high b)
    → ((id : ℕ) → ids_hold a id ≡ ids_hold b id) → a ≡ b
one_list low high [] [] is are same = refl
one_list low high [] (j ∷ b) is are same =
    let a = ascend_parts high j b are in
    let held : IsTrue (ids_hold (j ∷ b) j.first) = first_held high j b a j.first (omega arith) a.full in
    let none : false ≡ ids_hold (j ∷ b) j.first = same j.first in absurd (cc)
one_list low high (i ∷ a) [] is are same =
    let a' = ascend_parts low i a is in
    let held : IsTrue (ids_hold (i ∷ a) i.first) = first_held low i a a' i.first (omega arith) a'.full in
    let none : ids_hold (i ∷ a) i.first ≡ false = same i.first in absurd (cc)
one_list low high (i ∷ a) (j ∷ b) is are same =
    let one = ascend_parts low i a is in
    let other = ascend_parts high j b are in
    let forth : Within (i ∷ a) (j ∷ b) = λ id held. sym (same id) ∙ held in
    let back : Within (j ∷ b) (i ∷ a) = λ id held. same id ∙ held in
    let le : j.first ≤ i.first = begins i j a b low high one other forth in
    let ge : i.first ≤ j.first = begins j i b a high low other one back in
    let first : i.first ≡ j.first = omega arith in
    let ends_le : i.last ≤ j.last = ends i j a b low high one other forth first in
    let ends_ge : j.last ≤ i.last = ends j i b a high low other one back (sym first) in
    let last : i.last ≡ j.last = omega arith in
    let rest : (id : ℕ) → ids_hold a id ≡ ids_hold b id = λ id. elim (cases_lt i.last id) [
      | inl after ↦ sym (rest_holds i a id after) ∙ same id ∙ rest_holds j b id (omega arith)
      | inr before ↦ none_below (i.last + 2) id a one.rest (omega arith) ∙ sym (none_below (j.last + 2) id b other.rest (omega arith))
    ] in
    ap (λ (head : Interval). head ∷ a) (same_ends i j first last)
    ∙ ap (λ (tail : List Interval). j ∷ tail) (one_list (i.last + 2) (j.last + 2) a b one.rest other.rest rest)
