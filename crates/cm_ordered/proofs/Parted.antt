-- What a search has found where a list is parted by what is below.
use Rattle.std.proofs.Common.{◌≡◌, ◌<◌, ◌≤◌, ◌+◌, ◌-◌, ◌*◌, ℕ, Bool, true, false, cond, List, ◌∷◌, length, get_or}
use Rattle.std.proofs.Common.{refl, sym, ◌∙◌, ap, arith, zero, suc, ◌⊎◌, inl, inr}
use Rattle.std.specs.List.{AllWithin}
use Rattle.std.specs.List.Sorted.{IsPartitionedBy}
use Rattle.std.proofs.lemmas.List.{get_or_default}
use Rattle.cm_ordered.specs.Order.{Ascends, IsBetween, IsCut, before_by, below_by}
use Rattle.cm_ordered.proofs.Order.{all_at, cut_at}

-- what comes before a thing with a lower number has a lower one too
lower_too : {A : Type 0} (number : A → ℕ) (n : ℕ) (x y : A) → before_by number x y ≡ true → below_by number n y ≡ true
    → below_by number n x ≡ true
lower_too number n x y before lower = grind (arith, before, lower)

-- a list that ascends by numbers is parted by each number
pub parted_by : {A : Type 0} (number : A → ℕ) (n : ℕ) (xs : List A) → Ascends (before_by number) xs
    → IsPartitionedBy (below_by number n) xs
parted_by number n (x ∷ xs) up zero zero d le h = λ is. is
parted_by number n (x ∷ xs) up zero (suc j) d le h = λ is.
    lower_too number n x (get_or xs j d) (all_at (before_by number x) true xs j d up.0 (omega arith)) is
parted_by number n (x ∷ xs) up (suc i) (suc j) d le h = parted_by number n xs up.1 i j d (omega arith) (omega arith)
parted_by number n _ up _ _ d le h = absurd (omega arith)

-- before one that is below all are
lower_ones : {A : Type 0} (below : A → Bool) (xs : List A) (at end : ℕ) (d : A) → IsPartitionedBy below xs
    → at < length xs → end ≤ at → below (get_or xs at d) ≡ true → AllWithin (λ x. below x ≡ true) xs 0 end
lower_ones below xs at end d parts within before is k e low lt =
    parts k at e (omega arith) within (ap below (get_or_default xs at e d within) ∙ is)

-- after one that isn't below none is
higher_ones : {A : Type 0} (below : A → Bool) (xs : List A) (at from : ℕ) (d : A) → IsPartitionedBy below xs
    → at ≤ from → below (get_or xs at d) ≡ false → AllWithin (λ x. below x ≡ false) xs from (length xs)
higher_ones below xs at from d parts after isnt k e low lt =
    (elim (below (get_or xs k e)) as (λ b. below (get_or xs k e) ≡ b → b ≡ false) [
      | true ↦ λ is. sym (parts at k e (omega arith) lt is)
          ∙ (ap below (get_or_default xs at e d (omega arith)) ∙ isnt)
      | false ↦ λ is. refl
    ]) refl

-- three answers narrow the places
narrowed_by : {A : Type 0} (below : A → Bool) (xs : List A) (from step left : ℕ) (d : A) → IsPartitionedBy below xs
    → from + 3 * step < length xs → 4 * step ≤ left → IsBetween below xs from (from + left) → (a b c : Bool)
    → below (get_or xs (from + step) d) ≡ a → below (get_or xs (from + 2 * step) d) ≡ b
    → below (get_or xs (from + 3 * step) d) ≡ c
    → IsBetween below xs (from + (cond a 1 0 + cond b 1 0 + cond c 1 0) * step)
    (from + (cond a 1 0 + cond b 1 0 + cond c 1 0) * step + (left - 3 * step))
narrowed_by below xs from step left d parts within gap old true true true ha hb hc = (
  lower_ones below xs (from + 3 * step) (from + 3 * step) d parts within (omega arith) hc,
  λ k e low lt. old.1 k e (omega arith) lt,
)
narrowed_by below xs from step left d parts within gap old true true false ha hb hc = (
  lower_ones below xs (from + 2 * step) (from + 2 * step) d parts (omega arith) (omega arith) hb,
  higher_ones below xs (from + 3 * step) (from + 2 * step + (left - 3 * step)) d parts (omega arith) hc,
)
narrowed_by below xs from step left d parts within gap old true false true ha hb hc = (
  lower_ones below xs (from + 3 * step) (from + 2 * step) d parts within (omega arith) hc,
  higher_ones below xs (from + 2 * step) (from + 2 * step + (left - 3 * step)) d parts (omega arith) hb,
)
narrowed_by below xs from step left d parts within gap old true false false ha hb hc = (
  lower_ones below xs (from + step) (from + 1 * step) d parts (omega arith) (omega arith) ha,
  higher_ones below xs (from + 2 * step) (from + 1 * step + (left - 3 * step)) d parts (omega arith) hb,
)
narrowed_by below xs from step left d parts within gap old false true true ha hb hc = (
  lower_ones below xs (from + 3 * step) (from + 2 * step) d parts within (omega arith) hc,
  higher_ones below xs (from + step) (from + 2 * step + (left - 3 * step)) d parts (omega arith) ha,
)
narrowed_by below xs from step left d parts within gap old false true false ha hb hc = (
  lower_ones below xs (from + 2 * step) (from + 1 * step) d parts (omega arith) (omega arith) hb,
  higher_ones below xs (from + step) (from + 1 * step + (left - 3 * step)) d parts (omega arith) ha,
)
narrowed_by below xs from step left d parts within gap old false false true ha hb hc = (
  lower_ones below xs (from + 3 * step) (from + 1 * step) d parts within (omega arith) hc,
  higher_ones below xs (from + step) (from + 1 * step + (left - 3 * step)) d parts (omega arith) ha,
)
narrowed_by below xs from step left d parts within gap old false false false ha hb hc = (
  λ k e low lt. old.0 k e low (omega arith),
  higher_ones below xs (from + step) (from + 0 * step + (left - 3 * step)) d parts (omega arith) ha,
)

-- the same of the numbers that stand for the answers
pub narrowed : {A : Type 0} (below : A → Bool) (xs : List A) (from step left : ℕ) → IsPartitionedBy below xs
    → from + 3 * step < length xs → 4 * step ≤ left → IsBetween below xs from (from + left) → (r s t : ℕ)
    → ((d : A) → r ≡ cond (below (get_or xs (from + step) d)) 1 0)
    → ((d : A) → s ≡ cond (below (get_or xs (from + 2 * step) d)) 1 0)
    → ((d : A) → t ≡ cond (below (get_or xs (from + 3 * step) d)) 1 0)
    → IsBetween below xs (from + (r + s + t) * step) (from + (r + s + t) * step + (left - 3 * step))
narrowed below xs from step left parts within gap old r s t rs ss ts = (
  λ k e low lt. (narrowed_by below xs from step left e parts within gap old _ _ _ refl refl refl).0 k e low
      (rw (rs e) at (rw (ss e) at (rw (ts e) at lt))),
  λ k e low lt. (narrowed_by below xs from step left e parts within gap old _ _ _ refl refl refl).1 k e
      (rw (rs e) at (rw (ss e) at (rw (ts e) at low))) lt,
)

-- what an answer says that is told as a number
told_below : (b : Bool) (r : ℕ) → r ≡ cond b 1 0 → r ≡ 1 → b ≡ true
told_below true r is one = refl
told_below false r is one = absurd (omega (arith, is, one))

told_other : (b : Bool) (r : ℕ) → r ≡ cond b 1 0 → r ≡ 0 → b ≡ false
told_other true r is none = absurd (omega (arith, is, none))
told_other false r is none = refl

-- one more is counted, where all those so far are below, or no other one is
pub counted : {A : Type 0} (below : A → Bool) (xs : List A) (at place end r : ℕ) → IsPartitionedBy below xs
    → place < length xs → r ≤ 1 → ((d : A) → r ≡ cond (below (get_or xs place d)) 1 0)
    → ((at ≡ place) × IsBetween below xs at end) ⊎ ((at < place) × IsBetween below xs at at)
    → ((at + r ≡ place + 1) × IsBetween below xs (at + r) end) ⊎ ((at + r < place + 1) × IsBetween below xs (at + r) (at + r))
counted below xs at place end zero parts within few says (inl all) = inr (
  omega arith,
  (
    λ k e low lt. all.1.0 k e low (omega arith),
    λ k e low lt. higher_ones below xs place (at + 0) e parts (omega arith) (told_other (below (get_or xs place e)) zero (says e) refl)
        k e low lt,
  ),
)
counted below xs at place end zero parts within few says (inr some) = inr (
  omega arith,
  (λ k e low lt. some.1.0 k e low (omega arith), λ k e low lt. some.1.1 k e (omega arith) lt),
)
counted below xs at place end (suc zero) parts within few says (inl all) = inl (
  omega arith,
  (
    λ k e low lt. parts k place e (omega arith) within (told_below (below (get_or xs place e)) (suc zero) (says e) refl),
    λ k e low lt. all.1.1 k e low lt,
  ),
)
counted below xs at place end (suc zero) parts within few says (inr some) = inr (
  omega arith,
  (
    λ k e low lt. parts k place e (omega arith) within (told_below (below (get_or xs place e)) (suc zero) (says e) refl),
    λ k e low lt. some.1.1 k e (omega arith) lt,
  ),
)
counted below xs at place end (suc (suc r)) parts within few says so_far = absurd (omega arith)

-- the place past all that were counted
pub cut_counted : {A : Type 0} (below : A → Bool) (xs : List A) (at place end : ℕ) → place ≡ end → end ≤ length xs
    → ((at ≡ place) × IsBetween below xs at end) ⊎ ((at < place) × IsBetween below xs at at) → IsCut below xs at
cut_counted below xs at place end last within (inl all) = cut_at below xs at (omega arith)
    (all.1.0, λ k e low lt. all.1.1 k e (omega arith) lt)
cut_counted below xs at place end last within (inr some) = cut_at below xs at (omega arith) some.1
