-- Walks over two lists of intervals at once. Each time one of the two first intervals is left, the one that ends first.
use Rattle.std.proofs.Common.{◌≡◌, ℕ, ◌+◌, ◌<◌, ◌≤◌, ◌&&◌, ◌||◌, Bool, true, false, List, [], ◌∷◌, ◌++◌, ◌⊎◌, Option}
use Rattle.std.proofs.Common.{Some, None, if◌then◌else◌, max, min, refl, sym, ap, ◌∙◌, subst, inl, inr, arith}
use Rattle.std.specs.Prelude.{IsTrue, nat_lt, nat_le}
use Rattle.std.proofs.lemmas.Bool.{cases_Bool, cases_lt, cond-true, cond-false, leb-true, leb-false, and_parts, and_from, or_right, ltb-true, ltb-false}
use Rattle.std.proofs.lemmas.Bool.Decides.{nat_tests}
use Rattle.std.proofs.Math.Bool.{and_comm, or_assoc}
use Rattle.std.proofs.Math.Nat.{max_comm, min_comm}
use Rattle.std.proofs.lemmas.List.{append-nil}
use Rattle.cm_sets.specs.Sets.{InBoth, HoldsSome}
use Rattle.model_cred.specs.Intervals.{Interval, is_between, ids_hold, IsCanonical}
use Rattle.model_cred.proofs.Intervals.{none_below, rest_canonical, ascend_parts, none_after, first_held, held_above}
use Rattle.std.specs.Option.{option_to_list}
use Rattle.cm_idset.specs.Held.{Held}
use Rattle.cm_idset.specs.Pairs.{in_common}
use Rattle.cm_idset.proofs.Growth.{AllBefore, held_appended, before_pushed, canonical_pushed}

-- ---- steps
and_or : (p q r s : Bool) → s ≡ false → ((p || q) && (r || s)) ≡ ((p && r) || (q && (r || s)))
and_or true true true s is = refl
and_or true false false s is = is
and_or _ _ _ s is = refl

and_dropped : (p q r s : Bool) → p ≡ false → ((p || q) && s) ≡ ((p && r) || (q && s))
and_dropped true q r s is = absurd (cc)
and_dropped false q r s is = refl

-- Of what two lists hold in common, the first interval that ends first has its part with the other first one; its rest
-- has the rest.
pub step : (x y : Interval) (xs ys : List Interval) → IsCanonical (y ∷ ys) → x.last ≤ y.last → (id : ℕ)
    → (ids_hold (x ∷ xs) id && ids_hold (y ∷ ys) id) ≡ ((is_between x id && is_between y id) || (ids_hold xs id && ids_hold (y ∷ ys) id))
step x y xs ys are ends id = elim (cases_lt x.last id) [
  | inl after ↦ and_dropped (is_between x id) (ids_hold xs id) (is_between y id) (ids_hold (y ∷ ys) id) (none_after x id after)
  | inr upto ↦ and_or (is_between x id) (ids_hold xs id) (is_between y id) (ids_hold ys id)
      (none_below (y.last + 2) id ys (ascend_parts 0 y ys are).rest (omega arith))
]

-- two intervals of which one ends before the other begins have nothing in common
pub none_common : (x y : Interval) (id : ℕ) → x.last < y.first → (is_between x id && is_between y id) ≡ false
none_common x y id before = grind (arith, nat_tests)

-- What is left of two lists on a walk: both are canonical, and all that the two hold in common they still do.
pub record Left (one other a b : List Interval) : Type 0 where
  pub one_is : IsCanonical a
  pub other_is : IsCanonical b
  pub same : (id : ℕ) → (ids_hold one id && ids_hold other id) ≡ (ids_hold a id && ids_hold b id)

turned : (one other a b : List Interval) → Left one other a b → Left other one b a
turned one other a b left = record {
  one_is = left.other_is;
  other_is = left.one_is;
  same = λ id. and_comm (ids_hold other id) (ids_hold one id) ∙ left.same id ∙ and_comm (ids_hold a id) (ids_hold b id);
}

-- what is left, in the words of the first intervals
at_firsts : (one other a b : List Interval) (x y : Interval) (xs ys : List Interval) → a ≡ x ∷ xs → b ≡ y ∷ ys → Left one other a b
    → Left one other (x ∷ xs) (y ∷ ys)
at_firsts one other a b x y xs ys a_is b_is left =
    subst (λ (list : List Interval). Left one other (x ∷ xs) list) b_is (subst (λ (list : List Interval). Left one other list b) a_is left)

-- the first interval of one list is left where it ends before the other list begins
pub left_before : (one other a b : List Interval) (x y : Interval) (xs ys : List Interval) → a ≡ x ∷ xs → b ≡ y ∷ ys
    → true ≡ nat_lt x.last y.first → Left one other a b → Left one other xs b
left_before one other a b x y xs ys a_is b_is before left =
    let here : Left one other (x ∷ xs) (y ∷ ys) = at_firsts one other a b x y xs ys a_is b_is left in
    let less : x.last < y.first = ltb-true x.last y.first (sym before) in
    let full : y.first ≤ y.last = (ascend_parts 0 y ys here.other_is).full in
    subst (λ (list : List Interval). Left one other xs list) (sym b_is) (record {
      one_is = rest_canonical x xs here.one_is;
      other_is = here.other_is;
      same = λ id. here.same id ∙ step x y xs ys here.other_is (omega arith) id
          ∙ ap (λ (b : Bool). b || (ids_hold xs id && ids_hold (y ∷ ys) id)) (none_common x y id less);
    })

-- the same of the other list
pub left_after : (one other a b : List Interval) (x y : Interval) (xs ys : List Interval) → a ≡ x ∷ xs → b ≡ y ∷ ys
    → true ≡ nat_lt y.last x.first → Left one other a b → Left one other a ys
left_after one other a b x y xs ys a_is b_is before left =
    turned other one ys a (left_before other one b a y x ys xs b_is a_is before (turned one other a b left))

-- where neither ends before the other begins, both hold where the later begins
pub both_hold : (one other a b : List Interval) (x y : Interval) (xs ys : List Interval) → a ≡ x ∷ xs → b ≡ y ∷ ys
    → false ≡ nat_lt x.last y.first → false ≡ nat_lt y.last x.first → Left one other a b
    → HoldsSome (InBoth (Held one) (Held other))
both_hold one other a b x y xs ys a_is b_is not_before not_after left =
    let here : Left one other (x ∷ xs) (y ∷ ys) = at_firsts one other a b x y xs ys a_is b_is left in
    let id : ℕ = max x.first y.first in
    let low : y.first ≤ x.last = ltb-false x.last y.first (sym not_before) in
    let high : x.first ≤ y.last = ltb-false y.last x.first (sym not_after) in
    let one_parts = ascend_parts 0 x xs here.one_is in
    let other_parts = ascend_parts 0 y ys here.other_is in
    let in_one : IsTrue (ids_hold (x ∷ xs) id) = first_held 0 x xs one_parts id (omega arith) (omega (arith, one_parts.full)) in
    let in_other : IsTrue (ids_hold (y ∷ ys) id) = first_held 0 y ys other_parts id (omega arith) (omega (arith, other_parts.full)) in
    (id, and_parts (ids_hold one id) (ids_hold other id) (here.same id ∙ and_from (ids_hold (x ∷ xs) id) (ids_hold (y ∷ ys) id) in_one in_other))

-- ---- what two lists have in common, put into a list on the way
-- What is left of two lists, and what of them is in the list that is made: it is canonical, and ends before all that is
-- left in common.
pub record Meeting (one other out a b : List Interval) : Type 0 where
  pub made : IsCanonical out
  pub one_is : IsCanonical a
  pub other_is : IsCanonical b
  pub same : (id : ℕ) → (ids_hold one id && ids_hold other id) ≡ (ids_hold out id || (ids_hold a id && ids_hold b id))
  pub before : (id : ℕ) → IsTrue (ids_hold a id) → IsTrue (ids_hold b id) → AllBefore id out

-- what two intervals have in common, where they have it
abbrev pub piece : Interval → Interval → Interval
piece x y = record { first = max x.first y.first; last = min x.last y.last }

common_cases : (x y : Interval) → ((in_common x y ≡ Some (piece x y)) × (max x.first y.first ≤ min x.last y.last))
    ⊎ ((in_common x y ≡ None) × (min x.last y.last < max x.first y.first))
common_cases x y = elim (cases_Bool (nat_le (max x.first y.first) (min x.last y.last))) [
  | inl meet ↦ inl (
    cond-true (nat_le (max x.first y.first) (min x.last y.last)) (Some (piece x y)) None meet,
    leb-true (max x.first y.first) (min x.last y.last) meet,
  )
  | inr part ↦ inr (
    cond-false (nat_le (max x.first y.first) (min x.last y.last)) (Some (piece x y)) None part,
    leb-false (max x.first y.first) (min x.last y.last) part,
  )
]

piece_holds : (x y : Interval) (id : ℕ) → ids_hold (piece x y ∷ []) id ≡ (is_between x id && is_between y id)
piece_holds x y id = grind (arith, nat_tests)

nothing_holds : (x y : Interval) (id : ℕ) → min x.last y.last < max x.first y.first → false ≡ (is_between x id && is_between y id)
nothing_holds x y id part = grind (arith, nat_tests)

-- what is put into the list holds what both intervals hold
pub common_holds : (x y : Interval) (id : ℕ) → ids_hold (option_to_list (in_common x y)) id ≡ (is_between x id && is_between y id)
common_holds x y id = elim (common_cases x y) [
  | inl meet ↦ ap (λ (o : Option Interval). ids_hold (option_to_list o) id) meet.0 ∙ piece_holds x y id
  | inr part ↦ ap (λ (o : Option Interval). ids_hold (option_to_list o) id) part.0 ∙ nothing_holds x y id part.1
]

abbrev span : ℕ → ℕ → Option Interval
span first last = if nat_le first last then Some (record { first = first; last = last }) else None

common_turned : (x y : Interval) → in_common y x ≡ in_common x y
common_turned x y =
    ap (λ (n : ℕ). span n (min y.last x.last)) (max_comm y.first x.first) ∙ ap (λ (n : ℕ). span (max x.first y.first) n) (min_comm y.last x.last)

-- the list with what two first intervals have in common, of which the first ends first
made_more : (x y : Interval) (out xs ys : List Interval) → IsCanonical out → IsCanonical (x ∷ xs) → IsCanonical (y ∷ ys)
    → ((id : ℕ) → IsTrue (ids_hold (x ∷ xs) id) → IsTrue (ids_hold (y ∷ ys) id) → AllBefore id out) → IsCanonical (out ++ option_to_list (in_common x y))
made_more x y out xs ys made is are before =
    let a = ascend_parts 0 x xs is in
    let b = ascend_parts 0 y ys are in
    elim (common_cases x y) [
      | inl meet ↦
          let first : ℕ = max x.first y.first in
          let low : first ≤ min x.last y.last = meet.1 in
          let in_one : IsTrue (ids_hold (x ∷ xs) first) = first_held 0 x xs a first (omega arith) (omega arith) in
          let in_other : IsTrue (ids_hold (y ∷ ys) first) = first_held 0 y ys b first (omega arith) (omega arith) in
          subst (λ (o : Option Interval). IsCanonical (out ++ option_to_list o)) (sym meet.0)
          (canonical_pushed out (piece x y) made (before first in_one in_other) low (omega (arith, a.ids)))
      | inr part ↦ subst (λ (o : Option Interval). IsCanonical (out ++ option_to_list o)) (sym part.0) (subst IsCanonical (sym (append-nil out)) made)
    ]

-- it ends before what is left
before_more : (x y : Interval) (out : List Interval) (id : ℕ) → AllBefore id out → x.last + 2 ≤ id → AllBefore id (out ++ option_to_list (in_common x y))
before_more x y out id before after = elim (common_cases x y) [
  | inl meet ↦ subst (λ (o : Option Interval). AllBefore id (out ++ option_to_list o)) (sym meet.0) (before_pushed id out (piece x y) before (omega arith))
  | inr part ↦ subst (λ (o : Option Interval). AllBefore id (out ++ option_to_list o)) (sym part.0) (subst (AllBefore id) (sym (append-nil out)) before)
]

met_here : (one other out : List Interval) (x y : Interval) (xs ys : List Interval) → x.last ≤ y.last → Meeting one other out (x ∷ xs) (y ∷ ys)
    → Meeting one other (out ++ option_to_list (in_common x y)) xs (y ∷ ys)
met_here one other out x y xs ys ends m =
    let a = ascend_parts 0 x xs m.one_is in
    let before : (id : ℕ) → IsTrue (ids_hold xs id) → IsTrue (ids_hold (y ∷ ys) id)
    → AllBefore id (out ++ option_to_list (in_common x y)) = λ id in_one in_other.
    before_more x y out id (m.before id (or_right (is_between x id) (ids_hold xs id) in_one) in_other) (held_above (x.last + 2) id xs a.rest in_one).0 in
    record {
      made = made_more x y out xs ys m.made m.one_is m.other_is m.before;
      one_is = rest_canonical x xs m.one_is;
      other_is = m.other_is;
      same = λ id. m.same id ∙ ap (λ (b : Bool). ids_hold out id || b) (step x y xs ys m.other_is ends id)
          ∙ sym (or_assoc (ids_hold out id) (is_between x id && is_between y id) (ids_hold xs id && ids_hold (y ∷ ys) id))
          ∙ ap (λ (b : Bool). b || (ids_hold xs id && ids_hold (y ∷ ys) id))
          (sym (held_appended out (option_to_list (in_common x y)) id ∙ ap (λ (b : Bool). ids_hold out id || b) (common_holds x y id)));
      before = before;
    }

met_turned : (one other out a b : List Interval) → Meeting one other out a b → Meeting other one out b a
met_turned one other out a b m = record {
  made = m.made;
  one_is = m.other_is;
  other_is = m.one_is;
  same = λ id. and_comm (ids_hold other id) (ids_hold one id) ∙ m.same id ∙ ap (λ (t : Bool). ids_hold out id || t) (and_comm (ids_hold a id) (ids_hold b id));
  before = λ id in_other in_one. m.before id in_one in_other;
}

-- the first interval of one list is left where it ends first
pub met_one : (one other out more a b : List Interval) (x y : Interval) (xs ys : List Interval) → a ≡ x ∷ xs → b ≡ y ∷ ys
    → more ≡ out ++ option_to_list (in_common x y) → x.last ≤ y.last → Meeting one other out a b → Meeting one other more xs b
met_one one other out more a b x y xs ys a_is b_is more_is ends m =
    let here : Meeting one other out (x ∷ xs) (y ∷ ys) =
    subst (λ (list : List Interval). Meeting one other out (x ∷ xs) list) b_is (subst (λ (list : List Interval). Meeting one other out list b) a_is m) in
    subst (λ (list : List Interval). Meeting one other more xs list) (sym b_is)
    (subst (λ (list : List Interval). Meeting one other list xs (y ∷ ys)) (sym more_is) (met_here one other out x y xs ys ends here))

-- and that of the other where this one does
pub met_other : (one other out more a b : List Interval) (x y : Interval) (xs ys : List Interval) → a ≡ x ∷ xs → b ≡ y ∷ ys
    → more ≡ out ++ option_to_list (in_common x y) → y.last ≤ x.last → Meeting one other out a b → Meeting one other more a ys
met_other one other out more a b x y xs ys a_is b_is more_is ends m =
    let more_turned : more ≡ out ++ option_to_list (in_common y x) =
    more_is ∙ ap (λ (o : Option Interval). out ++ option_to_list o) (sym (common_turned x y)) in
    met_turned other one more ys a (met_one other one out more b a y x ys xs b_is a_is more_turned ends (met_turned one other out a b m))
