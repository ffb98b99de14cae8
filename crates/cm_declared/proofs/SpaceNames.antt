-- The number of a named space: its place among the names, counted from that of the first.
use Rattle.std.proofs.Common.{◌≡◌, ℕ, ◌+◌, Option, Some, List, [], ◌∷◌, map, cond, refl, ap, ◌∙◌, option_map}
use Rattle.std.specs.Prelude.{position, bytes_eq}
use Rattle.std.specs.List.{position_from}
use Rattle.model_text.specs.SpaceToken.{number_named}
use Rattle.cm_declared.proofs.FirstPlaces.{counted_on}

named_from : {A : Type 0} (bytes : A → List ℕ) (n : ℕ) (names : List A) (token : List ℕ)
    → number_named n (map bytes names) token ≡ position_from (λ known. bytes_eq (bytes known) token) n names
named_from bytes n [] token = refl
named_from bytes n (name ∷ names) token =
    ap (λ (later : Option ℕ). cond (bytes_eq (bytes name) token) (Some n) later) (named_from bytes (n + 1) names token)

-- the number of a name is its place after the number of the first name
pub number_named_place : {A : Type 0} (bytes : A → List ℕ) (n : ℕ) (names : List A) (token : List ℕ)
    → number_named n (map bytes names) token ≡ option_map (λ place. n + place) (position (λ known. bytes_eq (bytes known) token) names)
number_named_place bytes n names token = named_from bytes n names token ∙ counted_on (λ known. bytes_eq (bytes known) token) n names
