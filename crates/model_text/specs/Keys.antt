-- The keys that a table of a world's text has, with the kinds of their values; and what a table lacks of them (choice). These
-- faults are the same for all tables.
use Rattle.std.specs.Prelude.{ℕ, ◌-◌, ◌==◌, ◌&&◌, ◌||◌, Bool, true, false, not, is_some, map, List, [], ◌∷◌, ◌++◌, Option, Some, None}
use Rattle.std.specs.List.{list_all, list_any}
use Rattle.cm_base.specs.Limits.{id_count, last_pid, greatest_number}
use Rattle.cm_base.specs.declared.faults.WorldFault.TheVariants.{UnknownKey, MissingKey, WrongType, BadNumber}
use Rattle.model_text.specs.Refusal.{Cause, Fault}
use Rattle.model_text.specs.Toml.{has_key, has_only, all_items, count, number_from, is_text}
use Rattle.toml.specs.Data.{Data, string, integer, boolean, array, table, Members, get_member}

-- What a value ought to be: a text; one of these texts; a flag; a whole number from the first to the second one; an id, or
-- an array of four ids; an array of ids; an array of extents, each an array of three numbers; an array of texts; an array;
-- a table.
pub data Kind : Type 0 where
  Text : Kind
  Word : List (List ℕ) → Kind
  Flag : Kind
  Number : ℕ → ℕ → Kind
  Ids : Kind
  Groups : Kind
  Extents : Kind
  Texts : Kind
  Rows : Kind
  Section : Kind

-- When a table must have a key: always; never; where it has this other one.
pub data Need : Type 0 where
  Required : Need
  Optional : Need
  Beside : List ℕ → Need

-- A key that a table may have.
pub record Key : Type 0 where
  pub name : List ℕ
  pub kind : Kind
  pub need : Need

-- the key of that name, kind and need
abbrev pub key : List ℕ → Kind → Need → Key
key name kind need = record { name = name; kind = kind; need = need }

-- the last id
abbrev pub last_id : ℕ
last_id = id_count - 1

-- an id
abbrev pub an_id : Kind
an_id = Number 0 last_id

-- a pid
abbrev pub a_pid : Kind
a_pid = Number 1 last_pid

-- ---- values
-- a whole number; where ranges are asked for too, from the first to the second one
abbrev pub is_number : Bool → ℕ → ℕ → Data → Bool
is_number ranged low high (integer n) = not ranged || is_some (number_from low high (integer n))
is_number ranged low high _ = false

-- an array each item of which passes
abbrev pub is_array_of : (Data → Bool) → Data → Bool
is_array_of test (array values) = all_items test values
is_array_of test _ = false

-- such an array of so many items
abbrev pub is_list_of : ℕ → (Data → Bool) → Data → Bool
is_list_of n test (array values) = count values == n && all_items test values
is_list_of n test _ = false

-- a text
abbrev pub is_string : Data → Bool
is_string (string _) = true
is_string _ = false

-- a flag
abbrev pub is_flag : Data → Bool
is_flag (boolean _) = true
is_flag _ = false

-- an array
abbrev pub is_array : Data → Bool
is_array (array _) = true
is_array _ = false

-- a table
abbrev pub is_table : Data → Bool
is_table (table _) = true
is_table _ = false

-- The value is of the kind; where ranges are asked for too, each of its numbers is in its range.
abbrev pub is_of : Bool → Kind → Data → Bool
is_of ranged Text value = is_string value
is_of ranged (Word words) value = list_any (λ word. is_text word (Some value)) words
is_of ranged Flag value = is_flag value
is_of ranged (Number low high) value = is_number ranged low high value
is_of ranged Ids value = is_number ranged 0 last_id value || is_list_of 4 (is_number ranged 0 last_id) value
is_of ranged Groups value = is_array_of (is_number ranged 0 last_id) value
is_of ranged Extents value = is_array_of (is_list_of 3 (is_number ranged 0 greatest_number)) value
is_of ranged Texts value = is_array_of is_string value
is_of ranged Rows value = is_array value
is_of ranged Section value = is_table value

-- ---- tables
-- the table must have a key of that need
abbrev pub is_needed : Need → Members → Bool
is_needed Required row = true
is_needed Optional row = false
is_needed (Beside other) row = has_key other row

-- the table has the key, or needn't
abbrev pub has_as_needed : Members → Key → Bool
has_as_needed row k = has_key k.name row || not (is_needed k.need row)

-- a value that is there is of the kind
abbrev pub fits : Bool → Kind → Option Data → Bool
fits ranged kind None = true
fits ranged kind (Some value) = is_of ranged kind value

-- the value at each key that the table has is of the key's kind
abbrev pub are_of_kinds : Bool → List Key → Members → Bool
are_of_kinds ranged keys row = list_all (λ k. fits ranged k.kind (get_member k.name row)) keys

-- a key is none of these; one that is needed is missing; a value isn't of its kind
abbrev pub shape_checks : List Key → Members → List (Cause × Bool)
shape_checks keys row =
    (Fault UnknownKey, not (has_only (map (λ k. k.name) keys) row))
    ∷ (Fault MissingKey, not (list_all (has_as_needed row) keys))
    ∷ (Fault WrongType, not (are_of_kinds false keys row)) ∷ []

-- a number is out of its range
abbrev pub range_check : List Key → Members → Cause × Bool
range_check keys row = (Fault BadNumber, not (are_of_kinds true keys row))

-- the faults that are alike for all tables, in their order
abbrev pub key_checks : List Key → Members → List (Cause × Bool)
key_checks keys row = shape_checks keys row ++ range_check keys row ∷ []
