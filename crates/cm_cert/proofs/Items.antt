-- Items of values, read one by one: what is done, before what is left.
use Rattle.std.proofs.Common.{◌≡◌, ◌+◌, ◌<◌, ℕ, List, [], ◌∷◌, ◌++◌, length, drop, get_or, Option, Some, None, option_map, refl, ap, sym, ◌∙◌}
use Rattle.std.proofs.Common.{◌==◌, ◌*◌, true, false, Err, arith}
use Rattle.std.proofs.lemmas.Bool.Decides.{nat_tests}
use Rattle.std.proofs.lemmas.List.{drop_more}
use Rattle.model_cert.specs.Document.{all_rows}
use Rattle.model_cert.specs.Fault.{Shape}
use Rattle.model_cert.specs.Row.{rows_shape}
use Rattle.model_cert.specs.Sets.{two_ends}
use Rattle.model_cred.specs.Intervals.{Interval}
use Rattle.serde_json.proofs.Views.{items_len-items_view}
use Rattle.serde_json.specs.Events.{items_len}
use Rattle.serde_json.specs.View.{items_view}
use Rattle.serde_json.specs.declared.value.Value.{Value}

-- ---- one interval

pub not_two : (vs : List Value) → (length vs ≡ 2 → ⊥) → None ≡ two_ends (items_view vs)
not_two (a ∷ b ∷ []) other = absurd (other refl)
not_two _ other = refl

-- ---- several

-- the intervals that are read, before those that are still to be
abbrev pub before : List Interval → Option (List Interval) → Option (List Interval)
before done read = option_map (λ list. done ++ list) read

-- the items that are left begin with the value
pub left_is : (vs : List Value) (k : ℕ) (v : Value) → k < length vs → v ≡ get_or vs k v
    → items_view (drop k vs) ≡ items_view (v ∷ drop (k + 1) vs)
left_is vs k v below at =
    ap items_view (drop_more vs k v below ∙ ap (λ (head : Value). head ∷ drop (k + 1) vs) (sym at))

-- ---- as many as rows

pub enough_rows : (spaces : ℕ) (vs : List Value) → length vs ≡ 2 * spaces
    → all_rows spaces (Some (items_view vs)) ≡ rows_shape 0 (items_view vs)
enough_rows spaces vs is =
    let enough : (items_len (items_view vs) == 2 * spaces) ≡ true =
    grind (arith, nat_tests, items_len-items_view vs, is) in
    rw enough

pub other_count : (spaces : ℕ) (vs : List Value) → (length vs ≡ 2 * spaces → ⊥)
    → all_rows spaces (Some (items_view vs)) ≡ Err (Shape None)
other_count spaces vs other =
    let few : (items_len (items_view vs) == 2 * spaces) ≡ false =
    grind (arith, nat_tests, items_len-items_view vs, other) in
    rw few
