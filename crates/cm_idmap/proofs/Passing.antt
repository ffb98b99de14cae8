-- Lists of which at most one element passes a test: it is found wherever it stands, so in each order of the list.
use Rattle.std.proofs.Common.{◌≡◌, ℕ, zero, suc, ◌+◌, ◌<◌, ◌≤◌, Bool, true, false, List, [], ◌∷◌, Option, None, Some, if◌then◌else◌, cond, refl, sym, ◌∙◌, ap, inl, inr, length, arith, slice_index_or}
use Rattle.std.specs.Prelude.{find, All, Contains, option_and_then, count_by}
use Rattle.std.specs.List.Sorted.{IsPermutation}
use Rattle.std.proofs.lemmas.Bool.{cases_Bool, cond-true, cond-false}
use Rattle.std.proofs.lemmas.List.Elements.{All-head, All-tail, All-nil, All-cons}
use Rattle.std.proofs.lemmas.List.Recursion.{is_count_by}
use Rattle.std.proofs.lemmas.List.Sorted.{All-permutation, Contains-permutation, sum_by-IsPermutation}
use Rattle.cm_idmap.proofs.Finds.{find_none}

-- how many elements pass the test
unfoldable pub passing : {X : Type 0} → (X → Bool) → List X → ℕ
passing p [] = 0
passing p (x ∷ xs) = cond (p x) (1 + passing p xs) (passing p xs)

pub passing_yes : {X : Type 0} (p : X → Bool) (x : X) (xs : List X) → p x ≡ true → passing p (x ∷ xs) ≡ 1 + passing p xs
unfolding passing
passing_yes p x xs passes = cond-true (p x) _ _ passes

pub passing_no : {X : Type 0} (p : X → Bool) (x : X) (xs : List X) → p x ≡ false → passing p (x ∷ xs) ≡ passing p xs
unfolding passing
passing_no p x xs fails = cond-false (p x) _ _ fails

passing_is : {X : Type 0} (p : X → Bool) (xs : List X) → passing p xs ≡ count_by p xs
unfolding passing
passing_is p xs = is_count_by (passing p) p refl (λ x xs. refl) xs

-- as many in each order
pub passing_permuted : {X : Type 0} (p : X → Bool) (xs ys : List X) → IsPermutation xs ys → passing p ys ≡ passing p xs
passing_permuted p xs ys moved = passing_is p ys ∙ (sum_by-IsPermutation (λ x. cond (p x) 1 0) xs ys moved ∙ sym (passing_is p xs))

-- none passes where each fails
pub passing_none : {X : Type 0} (p : X → Bool) (xs : List X) → All (λ x. p x ≡ false) xs → passing p xs ≡ 0
unfolding passing
passing_none p [] none = refl
passing_none p (x ∷ xs) none = passing_no p x xs (All-head (λ y. p y ≡ false) x xs none) ∙ passing_none p xs (All-tail (λ y. p y ≡ false) x xs none)

none_passing : {X : Type 0} (p : X → Bool) (xs : List X) → passing p xs ≡ 0 → All (λ x. p x ≡ false) xs
none_passing p [] is = All-nil (λ x. p x ≡ false)
none_passing p (x ∷ xs) is =
    elim (cases_Bool (p x)) [
      | inl passes ↦ absurd (omega (arith, passing_yes p x xs passes, is))
      | inr fails ↦ All-cons (λ y. p y ≡ false) x xs fails (none_passing p xs (sym (passing_no p x xs fails) ∙ is))
    ]

-- one passes where one at a place does
pub passing_at : {X : Type 0} (p : X → Bool) (xs : List X) (k : ℕ) (d : X) → k < length xs → p (slice_index_or xs k d) ≡ true → 1 ≤ passing p xs
passing_at p [] k d below passes = absurd (omega (arith, below))
passing_at p (x ∷ xs) zero d below passes = omega (arith, passing_yes p x xs passes)
passing_at p (x ∷ xs) (suc k) d below passes =
    let later : 1 ≤ passing p xs = passing_at p xs k d (omega (arith, below)) passes in
    elim (cases_Bool (p x)) [
      | inl here ↦ omega (arith, passing_yes p x xs here)
      | inr fails ↦ omega (arith, passing_no p x xs fails, later)
    ]

not_within : (a b : Bool) → (a ≡ true → b ≡ true) → b ≡ false → a ≡ false
not_within true b within fails = let holds : b ≡ true = within refl in absurd (cc)
not_within false b within fails = refl

-- ---- the one that passes
find_one : {X : Type 0} (p : X → Bool) (xs : List X) (k : ℕ) (x : X) → passing p xs ≤ 1 → k < length xs → slice_index_or xs k x ≡ x → p x ≡ true
    → find p xs ≡ Some x
find_one p [] k x few below is passes = absurd (omega (arith, below))
find_one p (y ∷ xs) zero x few below is passes = cond-true (p y) (Some y) (find p xs) (ap p is ∙ passes) ∙ ap Some is
find_one p (y ∷ xs) (suc k) x few below is passes =
    elim (cases_Bool (p y)) [
      | inl here ↦
          let later : 1 ≤ passing p xs = passing_at p xs k x (omega (arith, below)) (ap p is ∙ passes) in
          absurd (omega (arith, passing_yes p y xs here, few, later))
      | inr fails ↦
          cond-false (p y) (Some y) (find p xs) fails
          ∙ find_one p xs k x (omega (arith, passing_no p y xs fails, few)) (omega (arith, below)) is passes
    ]

-- What is found stands in the list, and passes.
pub record Found {X : Type 0} (p : X → Bool) (xs : List X) (x : X) : Type 0 where
  pub stands : Contains xs x
  pub passes : p x ≡ true

pub found_in : {X : Type 0} (p : X → Bool) (xs : List X) (x : X) → find p xs ≡ Some x → Found p xs x
found_in p [] x is = absurd (cc)
found_in p (y ∷ xs) x is =
    elim (cases_Bool (p y)) [
      | inl here ↦
          let it : Some y ≡ Some x = sym (cond-true (p y) (Some y) (find p xs) here) ∙ is in
          let same : y ≡ x = cc in
          record { stands = (0, omega arith, same); passes = sym (ap p same) ∙ here }
      | inr fails ↦
          let later = found_in p xs x (sym (cond-false (p y) (Some y) (find p xs) fails) ∙ is) in
          record { stands = (suc later.stands.0, omega (arith, later.stands.1), later.stands.2); passes = later.passes }
    ]

none_found : {X : Type 0} (p : X → Bool) (xs : List X) → find p xs ≡ None → All (λ x. p x ≡ false) xs
none_found p [] is = All-nil (λ x. p x ≡ false)
none_found p (y ∷ xs) is =
    elim (cases_Bool (p y)) [
      | inl here ↦ let it : Some y ≡ None = sym (cond-true (p y) (Some y) (find p xs) here) ∙ is in absurd (cc)
      | inr fails ↦ All-cons (λ x. p x ≡ false) y xs fails (none_found p xs (sym (cond-false (p y) (Some y) (find p xs) fails) ∙ is))
    ]

permuted_at : {X : Type 0} (p : X → Bool) (xs ys : List X) (o : Option X) → IsPermutation xs ys → passing p xs ≤ 1 → find p xs ≡ o → find p ys ≡ o
permuted_at p xs ys None moved few is = find_none p ys (All-permutation (λ x. p x ≡ false) xs ys moved (none_found p xs is))
permuted_at p xs ys (Some x) moved few is =
    let it = found_in p xs x is in
    let there = Contains-permutation xs ys x moved it.stands in
    find_one p ys there.0 x (omega (arith, passing_permuted p xs ys moved, few)) there.1 there.2 it.passes

-- it is found in each order
pub find_permuted : {X : Type 0} (p : X → Bool) (xs ys : List X) → IsPermutation xs ys → passing p xs ≤ 1 → find p ys ≡ find p xs
find_permuted p xs ys moved few = permuted_at p xs ys (find p xs) moved few refl

-- the one that passes a second test too, where none passes that one alone
pub find_narrow : {X : Type 0} (p q : X → Bool) (xs : List X) → ((x : X) → q x ≡ true → p x ≡ true) → passing p xs ≤ 1
    → find q xs ≡ option_and_then (λ x. if q x then Some x else None) (find p xs)
find_narrow p q [] within few = refl
find_narrow p q (x ∷ xs) within few =
    elim (cases_Bool (p x)) [
      | inl here ↦
          let rest : All (λ y. p y ≡ false) xs = none_passing p xs (omega (arith, passing_yes p x xs here, few)) in
          let none : find q xs ≡ None =
          find_none q xs (λ k d below. not_within _ _ (within (slice_index_or xs k d)) (rest k d below)) in
          ap (λ o. cond (q x) (Some x) o) none
          ∙ ap (λ o. option_and_then (λ y. if q y then Some y else None) o) (sym (cond-true (p x) (Some x) (find p xs) here))
      | inr fails ↦
          cond-false (q x) (Some x) (find q xs) (not_within (q x) (p x) (within x) fails)
          ∙ (find_narrow p q xs within (omega (arith, passing_no p x xs fails, few))
          ∙ ap (λ o. option_and_then (λ y. if q y then Some y else None) o) (sym (cond-false (p x) (Some x) (find p xs) fails)))
    ]
