-- What writing and reading an attribute have to do with each other.
use Rattle.std.specs.Prelude.{◌≡◌, ◌<◌, ◌^◌, Ok}
use Rattle.model_cred.specs.Attribute.{attribute_of, attribute_bytes}
use Rattle.model_cred.specs.Files.{FileCaps, KeepsCaps}

-- The bytes of an attribute whose root id is a number of 32 bits, read again, are the attribute.
abbrev pub WrittenIsReadBack : Type 0
WrittenIsReadBack = (caps : FileCaps) → KeepsCaps caps → caps.root < 2 ^ 32 → attribute_of (attribute_bytes caps) ≡ Ok caps
