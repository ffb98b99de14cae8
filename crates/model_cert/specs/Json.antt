-- What a text is as JSON, in the words of the port of serde_json, and how a value of JSON is looked into.
use Rattle.std.specs.Prelude.{ℕ, ◌^◌, nat_lt, List, Option, Some, None, if◌then◌else◌}
use Rattle.std.specs.Prelude.{option_map, option_and_then, unwrap_or}
use Rattle.std.specs.Str.{is_utf8}
use Rattle.serde_json.specs.Data.{Data}
use Rattle.serde_json.specs.Events.{members_len}
use Rattle.serde_json.specs.Find.{get, as_object, as_number, as_u64}
use Rattle.serde_json.specs.Read.{read}

-- the value that bytes stand for: they are UTF-8, and serde_json reads them; of a key that comes twice the last value
-- stays
unfoldable pub json_of : List ℕ → Option Data
json_of bytes = if is_utf8 bytes then read bytes else None

-- how many keys an object has; 0 for any other value
abbrev pub key_count : Data → ℕ
key_count d = unwrap_or (option_map members_len (as_object d)) 0

-- a number of 32 bits
abbrev pub of_32_bits : ℕ → Option ℕ
of_32_bits n = if nat_lt n (2 ^ 32) then Some n else None

-- a whole number from 0 to 4294967295 that is written in digits alone; any other spelling is a float to serde_json, or
-- negative
abbrev pub number_of : Data → Option ℕ
number_of d = option_and_then of_32_bits (option_and_then as_u64 (as_number d))

-- the value at a key, of a kind
abbrev pub field : {A : Type 0} → (Data → Option A) → List ℕ → Data → Option A
field kind key d = option_and_then kind (get key d)
