-- Which rows a rule reads for what it adds to a row.
use Rattle.std.specs.Prelude.{◌≡◌, ◌⊎◌, ℕ, Bool, IsTrue, Some}
use Rattle.cm_filter.specs.declared.kind.CallKind.{CallKind}
use Rattle.model_cred.specs.Files.{FileTable}
use Rattle.model_cred.specs.Space.{Spaces, is_at_or_above, stands, space_of}
use Rattle.model_box.specs.Row.{Part, Row, Standing, Fresh, space_under}
use Rattle.model_box.specs.Rule.{Rule, ExecCaps, Create, Join, Maps}
use Rattle.model_box.specs.Closed.{Adds}
use Rattle.model_box.specs.Covers.{Earlier}
use Rattle.model_box.specs.Laws.{tested}
use Rattle.model_box.specs.Spread.{IsNext}

-- the standing row of the space, or of one above it
abbrev pub IsAbove : Spaces → ℕ → Row → Type 0
IsAbove spaces n (Standing a) = IsTrue (is_at_or_above spaces a n)
IsAbove spaces n (Fresh a) = ⊥

-- For what it adds to the first row the rule reads the second one. Most rules read the row itself. Programs with
-- attributes: also what may be inside 0 of the spaces above. Making a space: the standing row. Joining: the standing
-- rows of those above. Writing maps: the row itself, and the standing row of the parent, or of the fresh row's space.
abbrev pub Reads : Spaces → Rule → Row → Row → Type 0
Reads spaces ExecCaps row from = (from ≡ row) ⊎ IsAbove spaces (space_under row) from
Reads spaces Create (Standing n) from = ⊥
Reads spaces Create (Fresh n) from = from ≡ Standing n
Reads spaces Join (Standing n) from = (a : ℕ) × (m : ℕ) × IsNext spaces a n m × (from ≡ Standing a)
Reads spaces Join (Fresh n) from = ⊥
Reads spaces Maps (Standing n) from =
    (from ≡ Standing n) ⊎ ((q : ℕ) × ((space_of spaces n).parent ≡ Some q) × (from ≡ Standing q))
Reads spaces Maps (Fresh n) from = (from ≡ Fresh n) ⊎ (from ≡ Standing n)
Reads spaces _ row from = from ≡ row

-- A rule reads no other rows: it adds no more where those that it reads hold no more.
abbrev pub RulesReadTheseAlone : Type 0
RulesReadTheseAlone =
    (permitted : CallKind → Bool) (files : FileTable) (spaces : Spaces) (bounds other : ℕ → Part → ℕ → Bool)
    (rule : Rule) (row : Row)
    → ((from : Row) → Reads spaces rule row from → (part : Part) (x : ℕ)
    → tested bounds from part x → tested other from part x)
    → (part : Part) (x : ℕ) → Adds permitted files spaces (tested bounds) rule row part x
    → Adds permitted files spaces (tested other) rule row part x

-- All of them are the row itself, and standing rows of its space and of those above it.
abbrev pub ReadRowsAreAbove : Type 0
ReadRowsAreAbove =
    (spaces : Spaces) → Earlier spaces → (rule : Rule) (row from : Row) → IsTrue (stands spaces (space_under row))
    → Reads spaces rule row from → (from ≡ row) ⊎ IsAbove spaces (space_under row) from
