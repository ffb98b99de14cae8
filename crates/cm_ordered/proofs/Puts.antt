-- What is put in its place by its number.
use Rattle.std.proofs.Common.{◌≡◌, ℕ, zero, suc, ◌≤◌, ◌+◌, Bool, true, false, cond, length, List, [], ◌∷◌}
use Rattle.std.proofs.Common.{refl, sym, ◌∙◌, ap, arith, slice_set}
use Rattle.std.specs.List.{insert}
use Rattle.std.proofs.lemmas.Bool.{cond-true, cond-false}
use Rattle.cm_ordered.specs.Order.{AllSay, Ascends, IsCut, is_at, before_by, below_by, has_number, put_by}
use Rattle.cm_ordered.proofs.Order.{all_along}

-- ---- beside the first one
-- a thing is put before those that come after it
pub put_first : {A : Type 0} (number : A → ℕ) (new : A) (xs : List A) → AllSay (before_by number new) true xs
    → put_by number new xs ≡ new ∷ xs
put_first number new [] higher = refl
put_first number new (x ∷ xs) higher = cond-true (before_by number new x) _ _ higher.0

-- a thing is put after one that comes before it
pub put_past : {A : Type 0} (number : A → ℕ) (new x : A) (xs : List A) → before_by number x new ≡ true
    → put_by number new (x ∷ xs) ≡ x ∷ put_by number new xs
put_past number new x xs lower =
    let later : before_by number new x ≡ false = grind (arith, lower) in
    cond-false (before_by number new x) _ _ later ∙ cond-true (before_by number x new) _ _ lower

-- a thing is put instead of one of its number
pub put_for : {A : Type 0} (number : A → ℕ) (new x : A) (xs : List A) → number x ≡ number new
    → put_by number new (x ∷ xs) ≡ new ∷ xs
put_for number new x xs same =
    let later : before_by number new x ≡ false = grind (arith, same) in
    let lower : before_by number x new ≡ false = grind (arith, same) in
    cond-false (before_by number new x) _ _ later ∙ cond-false (before_by number x new) _ _ lower

-- where a number is that of the new thing
lower_before : {A : Type 0} (number : A → ℕ) (new x : A) (n : ℕ) → n ≡ number new → below_by number n x ≡ true
    → before_by number x new ≡ true
lower_before number new x n same lower = grind (arith, same, lower)

higher_after : {A : Type 0} (number : A → ℕ) (new x : A) (n : ℕ) → n ≡ number new → below_by number n x ≡ false
    → has_number number n x ≡ false → before_by number new x ≡ true
higher_after number new x n same reached isnt = grind (arith, same, reached, isnt)

one_number : {A : Type 0} (number : A → ℕ) (new x : A) (n : ℕ) → n ≡ number new → has_number number n x ≡ true
    → number x ≡ number new
one_number number new x n same is = grind (arith, same, is)

-- ---- at its place
-- a thing is put instead of the one that stands at its place
pub put_instead : {A : Type 0} (number : A → ℕ) (new : A) (n : ℕ) (xs : List A) (at : ℕ) → n ≡ number new
    → IsCut (below_by number n) xs at → is_at (has_number number n) xs at ≡ true
    → slice_set xs at new ≡ put_by number new xs
put_instead number new n [] at same cut is = absurd (cc)
put_instead number new n (x ∷ xs) zero same cut is = sym (put_for number new x xs (one_number number new x n same is))
put_instead number new n (x ∷ xs) (suc at) same cut is =
    ap (λ l. x ∷ l) (put_instead number new n xs at same cut.1 is)
    ∙ sym (put_past number new x xs (lower_before number new x n same cut.0))

-- a thing is put before the one at its place
pub put_between : {A : Type 0} (number : A → ℕ) (new : A) (n : ℕ) (xs : List A) (at : ℕ) → n ≡ number new
    → IsCut (below_by number n) xs at → is_at (has_number number n) xs at ≡ false
    → insert xs at new ≡ put_by number new xs
put_between number new n [] zero same cut isnt = refl
put_between number new n [] (suc at) same cut isnt = absurd (omega arith)
put_between number new n (x ∷ xs) zero same cut isnt =
    sym (cond-true (before_by number new x) _ _ (higher_after number new x n same cut.0 isnt))
put_between number new n (x ∷ xs) (suc at) same cut isnt =
    ap (λ l. x ∷ l) (put_between number new n xs at same cut.1 isnt)
    ∙ sym (put_past number new x xs (lower_before number new x n same cut.0))

-- ---- how many there are
length_insert : {A : Type 0} (xs : List A) (at : ℕ) (x : A) → length (insert xs at x) ≡ length xs + 1
length_insert xs zero x = omega arith
length_insert [] (suc at) x = omega arith
length_insert (y ∷ xs) (suc at) x = let rest = length_insert xs at x in omega (arith, rest)

-- a thing put where none of its number stands is one more
pub put_adds : {A : Type 0} (number : A → ℕ) (new : A) (n : ℕ) (xs : List A) (at : ℕ) → n ≡ number new
    → IsCut (below_by number n) xs at → is_at (has_number number n) xs at ≡ false
    → length (put_by number new xs) ≡ length xs + 1
put_adds number new n xs at same cut isnt =
    ap (λ (l : List _). length l) (sym (put_between number new n xs at same cut isnt)) ∙ length_insert xs at new

-- and one more at most, whatever stands there
pub put_longer : {A : Type 0} (number : A → ℕ) (new : A) (xs : List A) → length (put_by number new xs) ≤ length xs + 1
put_longer number new [] = omega arith
put_longer number new (x ∷ xs) = let rest = put_longer number new xs in grind (arith, rest)

-- ---- the order stays
-- what is said of all and of one more is said of all with that one put in its place
pub all_put : {A : Type 0} (test : A → Bool) (answer : Bool) (number : A → ℕ) (new : A) (xs : List A)
    → test new ≡ answer → AllSay test answer xs → AllSay test answer (put_by number new xs)
all_put test answer number new [] said all = (said, tt)
all_put test answer number new (x ∷ xs) said all =
    elim (before_by number new x) as (λ b. AllSay test answer (cond b (new ∷ x ∷ xs) (cond (before_by number x new)
    (x ∷ put_by number new xs) (new ∷ xs)))) [
      | true ↦ (said, all)
      | false ↦ elim (before_by number x new) as (λ b. AllSay test answer (cond b (x ∷ put_by number new xs) (new ∷ xs))) [
        | true ↦ (all.0, all_put test answer number new xs said all.1)
        | false ↦ (said, all.1)
      ]
    ]

-- with one more in its place they ascend
pub put_ascends : {A : Type 0} (number : A → ℕ) (new : A) (xs : List A) → Ascends (before_by number) xs
    → Ascends (before_by number) (put_by number new xs)
put_ascends number new [] up = (tt, tt)
put_ascends number new (x ∷ xs) up =
    (elim (before_by number new x) as (λ b. before_by number new x ≡ b → Ascends (before_by number)
    (cond b (new ∷ x ∷ xs) (cond (before_by number x new) (x ∷ put_by number new xs) (new ∷ xs)))) [
      | true ↦ λ first. (
        (first, all_along (before_by number x) (before_by number new) true true xs (λ y h. grind (arith, first, h)) up.0),
        up,
      )
      | false ↦ λ later. (elim (before_by number x new) as (λ b. before_by number x new ≡ b
          → Ascends (before_by number) (cond b (x ∷ put_by number new xs) (new ∷ xs))) [
            | true ↦ λ lower. (all_put (before_by number x) true number new xs lower up.0, put_ascends number new xs up.1)
            | false ↦ λ lower. (
              all_along (before_by number x) (before_by number new) true true xs (λ y h. grind (arith, later, lower, h)) up.0,
              up.1,
            )
          ]) refl
    ]) refl
