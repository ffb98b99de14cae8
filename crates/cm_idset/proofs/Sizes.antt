-- How many ids a canonical list holds: what its intervals add up to.
use Rattle.std.proofs.Common.{◌≡◌, ℕ, zero, suc, ◌+◌, ◌-◌, ◌<◌, ◌≤◌, ◌&&◌, ◌||◌, Bool, true, false, List, [], ◌∷◌}
use Rattle.std.proofs.Common.{if◌then◌else◌, min, refl, sym, ap, ◌∙◌, inl, inr, arith}
use Rattle.std.specs.Prelude.{IsTrue}
use Rattle.std.proofs.lemmas.Bool.{cases_lt, and_left, and_right}
use Rattle.std.proofs.lemmas.Bool.Decides.{nat_tests}
use Rattle.cm_base.specs.Limits.{id_count}
use Rattle.model_cred.specs.Intervals.{Interval, is_between, ids_hold, ascend_from, IsCanonical}
use Rattle.model_cred.proofs.Intervals.{ascend_parts, none_below, none_after}
use Rattle.cm_idset.specs.Size.{ids_count, count_below}

-- what ascends has no more ids than there are from there on
count_bound : (low : ℕ) (list : List Interval) → IsTrue (ascend_from low list) → low ≤ id_count + 1 → low + ids_count list ≤ id_count + 1
count_bound low [] is le = omega arith
count_bound low (i ∷ list) is le =
    let a = ascend_parts low i list is in
    let rest = count_bound (i.last + 2) list a.rest (omega (arith, a.ids)) in
    omega (arith, rest, a.above, a.full)

pub few : (list : List Interval) → IsCanonical list → ids_count list ≤ id_count + 1
few list is = let bound = count_bound 0 list is (omega arith) in omega (arith, bound)

-- ---- the numbers that pass a test, counted
one_of : (a b : Bool) (m k : ℕ) → (a && b) ≡ false → (if a || b then 1 else 0) + (m + k) ≡ ((if a then 1 else 0) + m) + ((if b then 1 else 0) + k)
one_of true true m k apart = absurd (cc)
one_of true false m k apart = omega arith
one_of false true m k apart = omega arith
one_of false false m k apart = omega arith

count_or : (p q : ℕ → Bool) (n : ℕ) → ((k : ℕ) → k < n → (p k && q k) ≡ false) → count_below (λ k. p k || q k) n ≡ count_below p n + count_below q n
unfolding count_below
count_or p q zero apart = refl
count_or p q (suc n) apart =
    let fewer : count_below (λ k. p k || q k) n ≡ count_below p n + count_below q n = count_or p q n (λ k below. apart k (omega arith)) in
    ap (λ (m : ℕ). (if p n || q n then 1 else 0) + m) fewer ∙ one_of (p n) (q n) (count_below p n) (count_below q n) (apart n (omega arith))

one_more : (i : Interval) (n : ℕ) → (if is_between i n then 1 else 0) + (min n (i.last + 1) - i.first) ≡ min (suc n) (i.last + 1) - i.first
one_more i n = grind (arith, nat_tests)

count_between : (i : Interval) (n : ℕ) → count_below (is_between i) n ≡ min n (i.last + 1) - i.first
unfolding count_below
count_between i zero = omega arith
count_between i (suc n) = ap (λ (m : ℕ). (if is_between i n then 1 else 0) + m) (count_between i n) ∙ one_more i n

count_none : (n : ℕ) → count_below (ids_hold []) n ≡ 0
unfolding count_below
count_none zero = refl
count_none (suc n) = omega (arith, count_none n)

apart_at : (low : ℕ) (i : Interval) (list : List Interval) (id : ℕ) → IsTrue (ascend_from low (i ∷ list)) → (is_between i id && ids_hold list id) ≡ false
apart_at low i list id is = elim (cases_lt i.last id) [
  | inl after ↦ and_left (is_between i id) (ids_hold list id) (none_after i id after)
  | inr upto ↦ and_right (is_between i id) (ids_hold list id) (none_below (i.last + 2) id list (ascend_parts low i list is).rest (omega arith))
]

-- the ids that are held, counted, are what the intervals add up to
count_list : (low : ℕ) (list : List Interval) (n : ℕ) → IsTrue (ascend_from low list) → id_count ≤ n → count_below (ids_hold list) n ≡ ids_count list
count_list low [] n is all = count_none n
count_list low (i ∷ list) n is all =
    let a = ascend_parts low i list is in
    let here : count_below (is_between i) n ≡ i.last - i.first + 1 = omega (arith, count_between i n, a.full, a.ids) in
    let rest : count_below (ids_hold list) n ≡ ids_count list = count_list (i.last + 2) list n a.rest all in
    count_or (is_between i) (ids_hold list) n (λ k below. apart_at low i list k is)
    ∙ ap (λ (m : ℕ). m + count_below (ids_hold list) n) here ∙ ap (λ (m : ℕ). i.last - i.first + 1 + m) rest

pub size_counts : (list : List Interval) (size : ℕ) → IsCanonical list → size ≡ ids_count list → size ≡ count_below (ids_hold list) id_count
size_counts list size is total = total ∙ sym (count_list 0 list id_count is (omega arith))
