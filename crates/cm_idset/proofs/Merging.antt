-- Two canonical lists put into one, in the order in which their intervals begin.
use Rattle.std.proofs.Common.{◌≡◌, ℕ, ◌+◌, ◌≤◌, ◌||◌, Bool, true, false, List, [], ◌∷◌, refl, sym, ap, subst, ◌∙◌, arith}
use Rattle.std.specs.Prelude.{IsTrue}
use Rattle.std.proofs.Math.Bool.{or_comm}
use Rattle.model_cred.specs.Intervals.{Interval, is_between, ids_hold, ascend_from, IsCanonical}
use Rattle.model_cred.proofs.Intervals.{ascend_parts, ascend_lower, from_first, rest_canonical}
use Rattle.cm_idset.specs.Order.{InOrderFrom, Continues, Taken}
use Rattle.cm_idset.proofs.Growth.{begun_later, continues_on}

-- What is left of two lists, and what of them is in the list that is made.
pub record Joining (one other out a b : List Interval) : Type 0 where
  pub made : IsCanonical out
  pub one_is : IsCanonical a
  pub other_is : IsCanonical b
  pub one_continues : Continues out a
  pub other_continues : Continues out b
  pub same : (id : ℕ) → (ids_hold one id || ids_hold other id) ≡ (ids_hold out id || (ids_hold a id || ids_hold b id))

-- a canonical list is in order
pub order_from : (low : ℕ) (list : List Interval) → IsTrue (ascend_from low list) → InOrderFrom low list
order_from low [] is = tt
order_from low (i ∷ list) is =
    let a = ascend_parts low i list is in
    (a.above, a.full, a.ids, order_from i.first list (ascend_lower i.first (i.last + 2) list (omega (arith, a.full)) a.rest))

canonical_continues : (list : List Interval) → IsCanonical list → Continues [] list
canonical_continues [] is = tt
canonical_continues (i ∷ list) is = (tt, order_from i.first (i ∷ list) (from_first 0 i list is))

-- nothing is put yet
pub joining_start : (one other out : List Interval) → out ≡ [] → IsCanonical one → IsCanonical other → Joining one other out one other
joining_start one other out none is are = subst (λ (l : List Interval). Joining one other l one other) (sym none) (record {
  made = refl;
  one_is = is;
  other_is = are;
  one_continues = canonical_continues one is;
  other_continues = canonical_continues other are;
  same = λ id. refl;
})

or_moved : (p q r s : Bool) → (p || ((q || r) || s)) ≡ ((p || q) || (r || s))
or_moved false true r s = refl
or_moved _ _ r s = refl

-- the first interval of one list is put where it begins first
pub join_one : (one other out new a b : List Interval) (x y : Interval) (xs ys : List Interval) → a ≡ x ∷ xs → b ≡ y ∷ ys → x.first ≤ y.first
    → Taken out x new → Joining one other out a b → Joining one other new xs b
join_one one other out new a b x y xs ys a_is b_is begins taken j =
    let here : Joining one other out (x ∷ xs) (y ∷ ys) =
    subst (λ (l : List Interval). Joining one other out (x ∷ xs) l) b_is (subst (λ (l : List Interval). Joining one other out l b) a_is j) in
    subst (λ (l : List Interval). Joining one other new xs l) (sym b_is) (record {
      made = taken.canonical;
      one_is = rest_canonical x xs here.one_is;
      other_is = here.other_is;
      one_continues = continues_on out new xs x here.one_continues taken.begun;
      other_continues = (begun_later x.first y.first new begins taken.begun, here.other_continues.1);
      same = λ id. here.same id ∙ or_moved (ids_hold out id) (is_between x id) (ids_hold xs id) (ids_hold (y ∷ ys) id)
          ∙ ap (λ (t : Bool). t || (ids_hold xs id || ids_hold (y ∷ ys) id)) (sym (taken.holds id));
    })

turned : (one other out a b : List Interval) → Joining one other out a b → Joining other one out b a
turned one other out a b j = record {
  made = j.made;
  one_is = j.other_is;
  other_is = j.one_is;
  one_continues = j.other_continues;
  other_continues = j.one_continues;
  same = λ id. or_comm (ids_hold other id) (ids_hold one id) ∙ j.same id ∙ ap (λ (t : Bool). ids_hold out id || t) (or_comm (ids_hold a id) (ids_hold b id));
}

-- and that of the other where that one does
pub join_other : (one other out new a b : List Interval) (x y : Interval) (xs ys : List Interval) → a ≡ x ∷ xs → b ≡ y ∷ ys → y.first ≤ x.first
    → Taken out y new → Joining one other out a b → Joining one other new a ys
join_other one other out new a b x y xs ys a_is b_is begins taken j =
    turned other one new ys a (join_one other one out new b a y x ys xs b_is a_is begins taken (turned one other out a b j))
