-- Numbers that are in their ranges are of their kinds: a row whose values are in range has no fault of kinds either.
use Rattle.std.proofs.Common.{◌≡◌, ℕ, ◌==◌, Bool, true, false, List, [], ◌∷◌, Option, Some, None, refl, inl, inr, map, not}
use Rattle.std.specs.List.{list_all}
use Rattle.std.proofs.lemmas.Bool.{and_parts, and_from, or_cases, or_left, or_right}
use Rattle.model_text.specs.Keys.{Kind, Number, Ids, Groups, Extents, Key, last_id}
use Rattle.cm_base.specs.declared.faults.WorldFault.TheVariants.{UnknownKey, MissingKey, WrongType, BadNumber}
use Rattle.model_text.specs.Keys.{is_number, is_array_of, is_list_of, is_of, fits, are_of_kinds, has_as_needed, key_checks}
use Rattle.model_text.specs.Refusal.{Fault, first_standing}
use Rattle.cm_base.specs.Limits.{greatest_number}
use Rattle.model_text.specs.Toml.{all_items, count, has_only}
use Rattle.toml.specs.Data.{Data, integer, array, Items, no_items, item, Members, get_member}

number_of_kind : (low high : ℕ) (v : Data) → is_number true low high v ≡ true → is_number false low high v ≡ true
number_of_kind low high (integer n) is = refl
number_of_kind low high _ is = is

all_of_kind : (p q : Data → Bool) → ((v : Data) → p v ≡ true → q v ≡ true) → (vs : Items) → all_items p vs ≡ true → all_items q vs ≡ true
all_of_kind p q each no_items is = refl
all_of_kind p q each (item v vs) is =
    let parts = and_parts (p v) (all_items p vs) is in
    and_from (q v) (all_items q vs) (each v parts.0) (all_of_kind p q each vs parts.1)

array_of_kind : (p q : Data → Bool) → ((v : Data) → p v ≡ true → q v ≡ true) → (v : Data) → is_array_of p v ≡ true → is_array_of q v ≡ true
array_of_kind p q each (array vs) is = all_of_kind p q each vs is
array_of_kind p q each _ is = is

list_of_kind : (n : ℕ) (p q : Data → Bool) → ((v : Data) → p v ≡ true → q v ≡ true) → (v : Data) → is_list_of n p v ≡ true → is_list_of n q v ≡ true
list_of_kind n p q each (array vs) is =
    let parts = and_parts (count vs == n) (all_items p vs) is in
    and_from (count vs == n) (all_items q vs) parts.0 (all_of_kind p q each vs parts.1)
list_of_kind n p q each _ is = is

-- a value in range is of the kind
value_of_kind : (kind : Kind) (v : Data) → is_of true kind v ≡ true → is_of false kind v ≡ true
value_of_kind (Number low high) v is = number_of_kind low high v is
value_of_kind Ids v is =
    elim (or_cases (is_number true 0 last_id v) (is_list_of 4 (is_number true 0 last_id) v) is) [
      | inl one ↦ or_left (is_number false 0 last_id v) (is_list_of 4 (is_number false 0 last_id) v) (number_of_kind 0 last_id v one)
      | inr four ↦
          or_right (is_number false 0 last_id v) (is_list_of 4 (is_number false 0 last_id) v)
          (list_of_kind 4 (is_number true 0 last_id) (is_number false 0 last_id) (number_of_kind 0 last_id) v four)
    ]
value_of_kind Groups v is = array_of_kind (is_number true 0 last_id) (is_number false 0 last_id) (number_of_kind 0 last_id) v is
value_of_kind Extents v is =
    array_of_kind (is_list_of 3 (is_number true 0 greatest_number)) (is_list_of 3 (is_number false 0 greatest_number))
    (list_of_kind 3 (is_number true 0 greatest_number) (is_number false 0 greatest_number) (number_of_kind 0 greatest_number)) v is
value_of_kind _ v is = is

fits_of_kind : (kind : Kind) (o : Option Data) → fits true kind o ≡ true → fits false kind o ≡ true
fits_of_kind kind None is = refl
fits_of_kind kind (Some v) is = value_of_kind kind v is

-- values in range are of their kinds
kinds_of_ranges : (keys : List Key) (row : Members) → are_of_kinds true keys row ≡ true → are_of_kinds false keys row ≡ true
kinds_of_ranges [] row is = refl
kinds_of_ranges (k ∷ keys) row is =
    let parts = and_parts (fits true k.kind (get_member k.name row)) (are_of_kinds true keys row) is in
    and_from (fits false k.kind (get_member k.name row)) (are_of_kinds false keys row) (fits_of_kind k.kind (get_member k.name row) parts.0)
    (kinds_of_ranges keys row parts.1)

-- four checks that pass are no cause
passed : (a b c d : Bool) → a ≡ true → b ≡ true → c ≡ true → d ≡ true
    → first_standing ((Fault UnknownKey, not a) ∷ (Fault MissingKey, not b) ∷ (Fault WrongType, not c) ∷ (Fault BadNumber, not d) ∷ []) ≡ None
passed a b c d one two three four = rw (one, two, three, four) refl

-- a row with the keys that it must have and no others, whose values are in range, has no fault that is alike for all tables
pub none_stands : (keys : List Key) (row : Members) → has_only (map (λ k. k.name) keys) row ≡ true → list_all (has_as_needed row) keys ≡ true
    → are_of_kinds true keys row ≡ true → first_standing (key_checks keys row) ≡ None
none_stands keys row only needed ranged =
    passed (has_only (map (λ k. k.name) keys) row) (list_all (has_as_needed row) keys) (are_of_kinds false keys row) (are_of_kinds true keys row)
    only needed (kinds_of_ranges keys row ranged) ranged
