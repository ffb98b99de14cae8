-- How the code's rows show themselves in the words of the definitions.
use Rattle.std.specs.Prelude.{◌↔◌, ◌⊎◌, ℕ, IsTrue, List}
use Rattle.model_box.specs.Bounds.{BoxRow, row_has, bounds_hold}
use Rattle.model_box.specs.Laws.{tested}
use Rattle.model_box.specs.Row.{Part, Row}

-- what the row holds
abbrev pub RowHolds : BoxRow → Part → ℕ → Type 0
RowHolds row part x = IsTrue (row_has row part x)

-- what the rows hold, as bounds
abbrev pub RowsHold : List BoxRow → Row → Part → ℕ → Type 0
RowsHold rows = tested (bounds_hold rows)

-- The row holds all that is to come to it.
abbrev pub HoldsAll : (Part → ℕ → Type 0) → (Part → ℕ → Type 0) → Type 0
HoldsAll row Added = (part : Part) (x : ℕ) → Added part x → row part x

-- Both hold the same.
abbrev pub AreSameRows : (Part → ℕ → Type 0) → (Part → ℕ → Type 0) → Type 0
AreSameRows one other = (part : Part) (x : ℕ) → one part x ↔ other part x

-- the one or the other holds it
abbrev pub InEitherRow : (Part → ℕ → Type 0) → (Part → ℕ → Type 0) → Part → ℕ → Type 0
InEitherRow one other part x = one part x ⊎ other part x
