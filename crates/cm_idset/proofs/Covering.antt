-- Whether a list holds all of an interval, of another list, and of what two lists have in common.
use Rattle.std.proofs.Common.{◌≡◌, ℕ, ◌+◌, ◌<◌, ◌≤◌, false, List, ◌∷◌, sym, subst, ◌∙◌, inl, inr, arith}
use Rattle.std.specs.Prelude.{nat_le, nat_lt, ◌&&◌}
use Rattle.cm_sets.specs.Sets.{InBoth, IsWithin, Exceeds}
use Rattle.model_cred.specs.Intervals.{Interval, is_between, ids_hold, IsCanonical}
use Rattle.std.proofs.lemmas.Bool.{or_cases, or_right, and_cases, and_parts, and_from, ltb-false, leb-false}
use Rattle.model_cred.proofs.Intervals.{ascend_parts, held_above, none_below, between_from, rest_holds, from_first, rest_canonical}
use Rattle.cm_idset.specs.Held.{Held, Between}
use Rattle.cm_idset.specs.Cover.{Covers, CoversCommon}
use Rattle.cm_idset.proofs.Walks.{step}

-- What is left of a list once the intervals before the ids are skipped.
pub record Skipped (list rest : List Interval) (i : Interval) : Type 0 where
  pub canonical : IsCanonical rest
  pub same : (id : ℕ) → i.first ≤ id → ids_hold rest id ≡ ids_hold list id

-- where the first interval that is left begins too late for the ids, or ends too soon, the list lacks one of them
pub one_lacking : (list rest later : List Interval) (i x : Interval) → rest ≡ i ∷ later → x.first ≤ x.last → false ≡ nat_lt i.last x.first
    → false ≡ (nat_le i.first x.first && nat_le x.last i.last) → Skipped list rest x → Exceeds (Between x) (Held list)
one_lacking list rest later i x is full not_before not_inside s =
    let here : Skipped list (i ∷ later) x = subst (λ (l : List Interval). Skipped list l x) is s in
    let near : x.first ≤ i.last = ltb-false i.last x.first (sym not_before) in
    elim (and_cases (nat_le i.first x.first) (nat_le x.last i.last) (sym not_inside)) [
      | inl late ↦
          let after : x.first < i.first = leb-false i.first x.first late in
          let lacks : ids_hold list x.first ≡ false = sym (here.same x.first (omega arith))
          ∙ none_below i.first x.first (i ∷ later) (from_first 0 i later here.canonical) after in
          (x.first, between_from x x.first (omega arith) full, λ held. cc)
      | inr soon ↦
          let more : i.last < x.last = leb-false x.last i.last soon in
          let next : ℕ = i.last + 1 in
          let after : ids_hold later next ≡ false = none_below (i.last + 2) next later (ascend_parts 0 i later here.canonical).rest (omega arith) in
          let lacks : ids_hold list next ≡ false = sym (here.same next (omega arith)) ∙ rest_holds i later next (omega arith) ∙ after in
          (next, between_from x next (omega arith) (omega arith), λ held. cc)
    ]

-- Where the rest of the one list is within the rest of the other, the one is within the other; and where it isn't, it isn't.
pub record Inside (one other a rest : List Interval) : Type 0 where
  pub one_is : IsCanonical a
  pub other_is : IsCanonical rest
  pub within : IsWithin (Held a) (Held rest) → IsWithin (Held one) (Held other)
  pub exceeds : Exceeds (Held a) (Held rest) → Exceeds (Held one) (Held other)

-- The same of what two lists have in common.
pub record CommonInside (one other bound a b rest : List Interval) : Type 0 where
  pub one_is : IsCanonical a
  pub other_is : IsCanonical b
  pub bound_is : IsCanonical rest
  pub within : IsWithin (InBoth (Held a) (Held b)) (Held rest) → IsWithin (InBoth (Held one) (Held other)) (Held bound)
  pub exceeds : Exceeds (InBoth (Held a) (Held b)) (Held rest) → Exceeds (InBoth (Held one) (Held other)) (Held bound)

-- one more interval of the one list is covered
pub inside_more : (one other a xs rest from : List Interval) (x : Interval) → a ≡ x ∷ xs
    → Covers rest from x → Inside one other a rest → Inside one other xs from
inside_more one other a xs rest from x is covers i =
    let here : Inside one other (x ∷ xs) rest = subst (λ (l : List Interval). Inside one other l rest) is i in
    let parts = ascend_parts 0 x xs here.one_is in
    let after : (id : ℕ) → Held xs id → ids_hold from id ≡ ids_hold rest id = λ id held.
    let above = held_above (x.last + 2) id xs parts.rest held in covers.same id (omega (arith, above.0, parts.full)) in
    let within : IsWithin (Held xs) (Held from) → IsWithin (Held (x ∷ xs)) (Held rest) = λ is id held.
    elim (or_cases (is_between x id) (ids_hold xs id) held) [ inl first ↦ covers.all id first | inr later ↦ sym (after id later) ∙ is id later ] in
    let exceeds : Exceeds (Held xs) (Held from) → Exceeds (Held (x ∷ xs)) (Held rest) = λ more.
    (more.0, or_right (is_between x more.0) (ids_hold xs more.0) more.1, λ held. more.2 (after more.0 more.1 ∙ held)) in
    record {
      one_is = rest_canonical x xs here.one_is;
      other_is = covers.canonical;
      within = λ is. here.within (within is);
      exceeds = λ more. here.exceeds (exceeds more);
    }

-- ---- what two lists have in common
-- the first interval that ends first has its part of it covered, and is left
pub common_one : (one other bound a b xs ys rest from : List Interval) (x y : Interval) → a ≡ x ∷ xs → b ≡ y ∷ ys → x.last ≤ y.last
    → CoversCommon rest from x y → CommonInside one other bound a b rest → CommonInside one other bound xs b from
common_one one other bound a b xs ys rest from x y a_is b_is ends covers i =
    let here : CommonInside one other bound (x ∷ xs) (y ∷ ys) rest =
    subst (λ (l : List Interval). CommonInside one other bound (x ∷ xs) l rest) b_is
    (subst (λ (l : List Interval). CommonInside one other bound l b rest) a_is i) in
    let parts = ascend_parts 0 x xs here.one_is in
    let after : (id : ℕ) → Held xs id → Held (y ∷ ys) id → ids_hold from id ≡ ids_hold rest id = λ id in_one in_other.
    let above = held_above (x.last + 2) id xs parts.rest in_one in
    let from_y = held_above y.first id (y ∷ ys) (from_first 0 y ys here.other_is) in_other in
    covers.same id (omega (arith, above.0, parts.full)) from_y.0 in
    let within : IsWithin (InBoth (Held xs) (Held (y ∷ ys))) (Held from) → IsWithin (InBoth (Held (x ∷ xs)) (Held (y ∷ ys))) (Held rest) = λ is id both.
    let held = sym (step x y xs ys here.other_is ends id) ∙ and_from (ids_hold (x ∷ xs) id) (ids_hold (y ∷ ys) id) both.0 both.1 in
    elim (or_cases (is_between x id && is_between y id) (ids_hold xs id && ids_hold (y ∷ ys) id) held) [
      | inl firsts ↦ let p = and_parts (is_between x id) (is_between y id) firsts in covers.all id p.0 p.1
      | inr later ↦ let p = and_parts (ids_hold xs id) (ids_hold (y ∷ ys) id) later in sym (after id p.0 p.1) ∙ is id p
    ] in
    let exceeds : Exceeds (InBoth (Held xs) (Held (y ∷ ys))) (Held from) → Exceeds (InBoth (Held (x ∷ xs)) (Held (y ∷ ys))) (Held rest) = λ more.
    (more.0, (or_right (is_between x more.0) (ids_hold xs more.0) more.1.0, more.1.1), λ held. more.2 (after more.0 more.1.0 more.1.1 ∙ held)) in
    subst (λ (l : List Interval). CommonInside one other bound xs l from) (sym b_is) (record {
      one_is = rest_canonical x xs here.one_is;
      other_is = here.other_is;
      bound_is = covers.canonical;
      within = λ is. here.within (within is);
      exceeds = λ more. here.exceeds (exceeds more);
    })

turned : (one other bound a b rest : List Interval) → CommonInside one other bound a b rest → CommonInside other one bound b a rest
turned one other bound a b rest i = record {
  one_is = i.other_is;
  other_is = i.one_is;
  bound_is = i.bound_is;
  within = λ is id both. i.within (λ id both. is id (both.1, both.0)) id (both.1, both.0);
  exceeds = λ more. let found = i.exceeds (more.0, (more.1.1, more.1.0), more.2) in (found.0, (found.1.1, found.1.0), found.2);
}

-- the same of the other list
pub common_other : (one other bound a b xs ys rest from : List Interval) (x y : Interval) → a ≡ x ∷ xs → b ≡ y ∷ ys → y.last ≤ x.last
    → CoversCommon rest from x y → CommonInside one other bound a b rest → CommonInside one other bound a ys from
common_other one other bound a b xs ys rest from x y a_is b_is ends covers i =
    let swapped : CoversCommon rest from y x = record {
      all = λ id in_y in_x. covers.all id in_x in_y;
      canonical = covers.canonical;
      same = λ id from_y from_x. covers.same id from_x from_y;
    } in
    turned other one bound ys a from (common_one other one bound b a ys xs rest from y x b_is a_is ends swapped (turned one other bound a b rest i))
