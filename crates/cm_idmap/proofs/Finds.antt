-- The first element of a list that passes a test.
use Rattle.std.proofs.Common.{◌≡◌, ℕ, zero, suc, ◌<◌, Bool, true, false, List, [], ◌∷◌, None, Some, refl, ◌∙◌, ap, arith, slice_index_or}
use Rattle.std.specs.Prelude.{find, slice_get, All}
use Rattle.std.proofs.lemmas.Bool.{cond-true, cond-false}
use Rattle.std.proofs.lemmas.List.Elements.{All-head, All-tail}

-- it is the one at a place, where none before it passes
pub find_first : {X : Type 0} (p : X → Bool) (xs : List X) (k : ℕ) (x : X) → slice_get xs k ≡ Some x → p x ≡ true
    → ((i : ℕ) (d : X) → i < k → p (slice_index_or xs i d) ≡ false) → find p xs ≡ Some x
find_first p [] k x is passes before = absurd (cc)
find_first p (y ∷ xs) zero x is passes before =
    let same : y ≡ x = cc in
    cond-true (p y) (Some y) (find p xs) (ap p same ∙ passes) ∙ is
find_first p (y ∷ xs) (suc k) x is passes before =
    cond-false (p y) (Some y) (find p xs) (before 0 x (omega arith))
    ∙ find_first p xs k x is passes (λ i d below. before (suc i) d (omega (arith, below)))

-- there is none where none passes
pub find_none : {X : Type 0} (p : X → Bool) (xs : List X) → All (λ x. p x ≡ false) xs → find p xs ≡ None
find_none p [] none = refl
find_none p (x ∷ xs) none =
    cond-false (p x) (Some x) (find p xs) (All-head (λ y. p y ≡ false) x xs none)
    ∙ find_none p xs (All-tail (λ y. p y ≡ false) x xs none)
