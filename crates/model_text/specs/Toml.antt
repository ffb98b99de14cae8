-- Words on the tables, arrays and values of a TOML text. What is asked of a value that isn't there, or is of another kind,
-- has a stated answer.
use Rattle.std.specs.Prelude.{ℕ, ◌+◌, ◌&&◌, Bool, true, false, nat_le, bytes_eq, pos, List, [], ◌∷◌, Option, Some, None, is_some, unwrap_or}
use Rattle.std.specs.Prelude.{if◌then◌else◌}
use Rattle.std.specs.List.{list_any}
use Rattle.toml.specs.Data.{Data, string, integer, boolean, array, table, Items, no_items, item, Members, no_members, member, get_member}

-- ---- keys
-- the table has the key
abbrev pub has_key : List ℕ → Members → Bool
has_key key members = is_some (get_member key members)

-- each key of the table is one of these
abbrev pub has_only : List (List ℕ) → Members → Bool
has_only keys no_members = true
has_only keys (member key value members) = list_any (bytes_eq key) keys && has_only keys members

-- ---- arrays
-- each item passes
abbrev pub all_items : (Data → Bool) → Items → Bool
all_items test no_items = true
all_items test (item value values) = test value && all_items test values

-- how many items there are
abbrev pub count : Items → ℕ
count no_items = 0
count (item value values) = 1 + count values

-- the items of an array, none of any other value
abbrev pub array_items : Option Data → Items
array_items (Some (array values)) = values
array_items _ = no_items

-- the texts among the items
abbrev pub texts_among : Items → List (List ℕ)
texts_among no_items = []
texts_among (item (string text) values) = text ∷ texts_among values
texts_among (item _ values) = texts_among values

-- ---- values
-- a whole number from the first to the second one
abbrev pub number_from : ℕ → ℕ → Data → Option ℕ
number_from low high (integer (pos n)) = if nat_le low n && nat_le n high then Some n else None
number_from low high _ = None

-- the same of a value that may be there
abbrev pub number_of : ℕ → ℕ → Option Data → Option ℕ
number_of low high (Some value) = number_from low high value
number_of low high None = None

-- the text of a value
abbrev pub text_of : Option Data → Option (List ℕ)
text_of (Some (string text)) = Some text
text_of _ = None

-- the flag that a value sets, false where there is none
abbrev pub flag_of : Option Data → Bool
flag_of (Some (boolean flag)) = flag
flag_of _ = false

-- the table that a value is, an empty one where it is none
abbrev pub table_of : Option Data → Members
table_of (Some (table members)) = members
table_of _ = no_members

-- the value is this text
abbrev pub is_text : List ℕ → Option Data → Bool
is_text text (Some (string bytes)) = bytes_eq bytes text
is_text text _ = false

-- ---- at a key
-- the text at the key, or this one
abbrev pub text_or : List ℕ → List ℕ → Members → List ℕ
text_or default key row = unwrap_or (text_of (get_member key row)) default

-- the number at the key, from the first to the second one, or the third
abbrev pub number_or : ℕ → ℕ → ℕ → List ℕ → Members → ℕ
number_or low high default key row = unwrap_or (number_of low high (get_member key row)) default
