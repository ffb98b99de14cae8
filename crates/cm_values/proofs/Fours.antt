-- The four ids of an array.
use Rattle.std.proofs.Common.{◌≡◌, ◌≢◌, List, [], ◌∷◌, length, refl}
use Rattle.model_cred.specs.Credential.{all_four}
use Rattle.model_text.specs.ProcessText.{four_of}
use Rattle.toml.specs.View.{items_view}
use Rattle.toml.specs.declared.value.Value.{Value}

-- an array of another length is none
pub four_of-not_four : (values : List Value) → length values ≢ 4 → four_of (items_view values) ≡ all_four 0
four_of-not_four (a ∷ b ∷ c ∷ d ∷ []) other = absurd (other refl)
four_of-not_four _ other = refl
