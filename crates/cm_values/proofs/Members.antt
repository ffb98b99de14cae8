-- A table and an array of a TOML text, as the definitions see them and as the code goes through them.
use Rattle.std.proofs.Common.{◌≡◌, ◌≢◌, ℕ, ◌+◌, ◌&&◌, List, [], ◌∷◌, length}
use Rattle.std.proofs.Common.{String, Global, string_bytes, bytes_eq, refl, ap, ◌∙◌, arith}
use Rattle.std.specs.List.{list_any, list_all}
use Rattle.std.specs.Map.{keys_of}
use Rattle.toml.specs.View.{items_view, members_view}
use Rattle.toml.specs.declared.value.Value.{Value}
use Rattle.toml.specs.Data.{array}
use Rattle.model_text.specs.MapText.{extent_of}
use Rattle.model_text.specs.Toml.{count, has_only}

-- the keys of a table, one by one
pub has_only-members_view : (keys : List (List ℕ)) (es : List (String Global × Value))
    → has_only keys (members_view es) ≡ list_all (λ k. list_any (bytes_eq (string_bytes k)) keys) (keys_of es)
has_only-members_view keys [] = refl
has_only-members_view keys (e ∷ es) = ap (λ b. list_any (bytes_eq (string_bytes e.0)) keys && b) (has_only-members_view keys es)

-- as many items as values
pub count_items : (values : List Value) → count (items_view values) ≡ length values
count_items [] = refl
count_items (value ∷ values) = ap (λ n. 1 + n) (count_items values) ∙ omega arith

-- an array of another length is no extent
pub extent_of-not_three : (values : List Value) → length values ≢ 3 → extent_of (array (items_view values)) ≡ record { inside = 0; outside = 0; length = 0 }
extent_of-not_three (a ∷ b ∷ c ∷ []) other = absurd (other refl)
extent_of-not_three _ other = refl
