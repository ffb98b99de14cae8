-- The two parts after a call's name, as they are found, and how long the name is.
use Rattle.std.proofs.Common.{◌≡◌, ℕ, List, [], ◌∷◌, Option, Some, None, refl, ap, ◌∙◌, inl, inr}
use Rattle.std.proofs.lemmas.Bool.{cases_Bool}
use Rattle.std.specs.Prelude.{option_map}
use Rattle.model_text.specs.Line.{Tokens, Parts, parts_of, after_argument, outcome_alone}
use Rattle.model_text.specs.Token.{is_equals}
use Rattle.cm_script.specs.Steps.{before_equals, only_one, outcome_of}

-- the parts of these arguments
abbrev with_arguments : Tokens → Option (List ℕ) → Option Parts
with_arguments arguments outcome = option_map (λ token. record { arguments = arguments; outcome = token }) outcome

-- the only one of tokens is the result without arguments
alone : (tokens : Tokens) → outcome_alone tokens ≡ with_arguments [] (only_one tokens)
alone (token ∷ []) = refl
alone _ = refl

-- one argument more in front
one_more : (token : List ℕ) (arguments : Tokens) (outcome : Option (List ℕ))
    → option_map (after_argument token) (with_arguments arguments outcome) ≡ with_arguments (token ∷ arguments) outcome
one_more token arguments None = refl
one_more token arguments (Some res) = refl

-- The parts of tokens are those before the first `=` and the only one after it.
pub parts_are : (tokens : Tokens) → parts_of tokens ≡ option_map (λ token. record { arguments = before_equals tokens; outcome = token }) (outcome_of tokens)
parts_are [] = refl
parts_are (token ∷ tokens) =
    elim (cases_Bool (is_equals token)) [
      | inl here ↦ rw here (alone tokens)
      | inr later ↦ rw later (ap (option_map (after_argument token)) (parts_are tokens) ∙ one_more token (before_equals tokens) (outcome_of tokens))
    ]
