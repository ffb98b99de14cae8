-- What a text is as JSON, by what serde_json says of it.
use Rattle.std.proofs.Common.{◌≡◌, ℕ, List, Bool, true, false, Some, None, IsUtf8, refl}
use Rattle.std.proofs.lemmas.Str.{is_utf8-from_IsUtf8, IsUtf8-from_is_utf8}
use Rattle.std.specs.Prelude.{if◌then◌else◌}
use Rattle.std.specs.Str.{is_utf8}
use Rattle.model_cert.specs.Json.{json_of}
use Rattle.serde_json.specs.Data.{Data}
use Rattle.serde_json.specs.Read.{read}

pub json_read : (bytes : List ℕ) (d : Data) → IsUtf8 bytes → read bytes ≡ Some d → json_of bytes ≡ Some d
unfolding json_of
json_read bytes d utf8 is = rw (is_utf8-from_IsUtf8 bytes utf8) is

if_utf8 : (bytes : List ℕ) (utf8 : Bool) → is_utf8 bytes ≡ utf8 → (IsUtf8 bytes → read bytes ≡ None)
    → (if utf8 then read bytes else None) ≡ None
if_utf8 bytes true is none = none (IsUtf8-from_is_utf8 bytes is)
if_utf8 bytes false is none = refl

pub no_json : (bytes : List ℕ) → (IsUtf8 bytes → read bytes ≡ None) → json_of bytes ≡ None
unfolding json_of
no_json bytes none = if_utf8 bytes (is_utf8 bytes) refl none
