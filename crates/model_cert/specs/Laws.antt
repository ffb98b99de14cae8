-- What holds of certificates; proved once, for all that is built on them.
use Rattle.std.specs.Prelude.{◌≡◌, ℕ, ◌*◌, List, [], ◌∷◌, ◌++◌, All, length, Ok}
use Rattle.cm_base.specs.CapSet.{IsCapSet}
use Rattle.model_box.specs.Bounds.{BoxRow}
use Rattle.model_cert.specs.Document.{certificate}
use Rattle.model_cert.specs.Written.{certificate_text}
use Rattle.model_verdict.specs.Rows.{IsRow}

-- The row's sets of ids are each written in the one way, and its sets of capabilities have capabilities alone.
pub record HasLawfulSets (row : BoxRow) : Type 0 where
  pub ids : IsRow row
  pub permitted : IsCapSet row.permitted
  pub inheritable : IsCapSet row.inheritable
  pub bounding : IsCapSet row.bounding

-- Each of the rows has lawful sets.
abbrev pub AreRows : List BoxRow → Type 0
AreRows rows = All HasLawfulSets rows

-- The text that is written for bounds stands for them.
abbrev pub RoundTrip : Type 0
RoundTrip =
    (spaces : ℕ) (rows : List BoxRow) → AreRows rows → length rows ≡ 2 * spaces
    → certificate spaces (certificate_text rows) ≡ Ok rows

-- So does that text with an LF after it, as a line of a file has it.
abbrev pub LineRoundTrip : Type 0
LineRoundTrip =
    (spaces : ℕ) (rows : List BoxRow) → AreRows rows → length rows ≡ 2 * spaces
    → certificate spaces (certificate_text rows ++ 10 ∷ []) ≡ Ok rows

-- Two bounds have two texts.
abbrev pub OneTextOneBounds : Type 0
OneTextOneBounds =
    (one other : List BoxRow) → AreRows one → AreRows other → certificate_text one ≡ certificate_text other
    → one ≡ other

-- What a text stands for has two rows for each space.
abbrev pub TwoRowsASpace : Type 0
TwoRowsASpace =
    (spaces : ℕ) (bytes : List ℕ) (rows : List BoxRow) → certificate spaces bytes ≡ Ok rows → length rows ≡ 2 * spaces
