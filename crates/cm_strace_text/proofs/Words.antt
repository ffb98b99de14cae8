-- Words after words.
use Rattle.std.proofs.Common.{◌≡◌, ℕ, List, [], ◌∷◌, refl, inl, inr}
use Rattle.std.proofs.lemmas.Bool.{cases_Bool}
use Rattle.std.specs.Prelude.{bytes_eq, option_and_then}
use Rattle.model_strace.specs.Body.{after_words}

-- what follows two words is what follows the second one, in what follows the first
pub two_words : (first second : List ℕ) (words : List (List ℕ))
    → after_words (first ∷ second ∷ []) words
    ≡ option_and_then (after_words (second ∷ [])) (after_words (first ∷ []) words)
two_words first second [] = refl
two_words first second (word ∷ words) =
    elim (cases_Bool (bytes_eq first word)) [ inl same ↦ rw same refl | inr other ↦ rw other refl ]
