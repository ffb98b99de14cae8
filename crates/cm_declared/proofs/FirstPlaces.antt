-- The first place in a list at which a test passes: whether there is one, and where it is.
use Rattle.std.proofs.Common.{◌≡◌, ℕ, ◌+◌, Bool, List, [], ◌∷◌, refl, sym, ap, ◌∙◌, inl, inr, is_some, option_map, arith}
use Rattle.std.proofs.lemmas.Bool.{cases_Bool}
use Rattle.std.proofs.lemmas.Iterator.Adapters.{position_from-zero}
use Rattle.std.specs.Prelude.{position}
use Rattle.std.specs.List.{list_any, position_from}

any_from : {A : Type 0} (p : A → Bool) (n : ℕ) (xs : List A) → list_any p xs ≡ is_some (position_from p n xs)
any_from p n [] = refl
any_from p n (x ∷ xs) =
    elim (cases_Bool (p x)) [
      | inl here ↦ rw here refl
      | inr later ↦ rw later (any_from p (n + 1) xs)
    ]

-- the test passes at one exactly where there is a first one
pub any_placed : {A : Type 0} (p : A → Bool) (xs : List A) → list_any p xs ≡ is_some (position p xs)
any_placed p xs = any_from p 0 xs ∙ ap is_some (sym (position_from-zero p xs))

counted_from : {A : Type 0} (p : A → Bool) (n first : ℕ) (xs : List A)
    → position_from p (n + first) xs ≡ option_map (λ place. n + place) (position_from p first xs)
counted_from p n first [] = refl
counted_from p n first (x ∷ xs) =
    elim (cases_Bool (p x)) [
      | inl here ↦ rw here refl
      | inr later ↦ let next : n + first + 1 ≡ n + (first + 1) = omega arith in
          rw later (ap (λ k. position_from p k xs) next ∙ counted_from p n (first + 1) xs)
    ]

-- its place, where places are counted from n on
pub counted_on : {A : Type 0} (p : A → Bool) (n : ℕ) (xs : List A) → position_from p n xs ≡ option_map (λ place. n + place) (position p xs)
counted_on p n xs =
    let same : n ≡ n + 0 = omega arith in
    ap (λ k. position_from p k xs) same ∙ counted_from p n 0 xs ∙ ap (option_map (λ place. n + place)) (sym (position_from-zero p xs))
