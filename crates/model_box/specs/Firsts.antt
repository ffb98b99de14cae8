-- Where bounds first fail: the first row that lacks what the start bounds hold, and the first rule and row at which they
-- aren't closed.
use Rattle.std.specs.Prelude.{ℕ, ◌<◌, Bool, IsTrue, List}
use Rattle.cm_filter.specs.declared.kind.CallKind.{CallKind}
use Rattle.model_cred.specs.Files.{FileTable}
use Rattle.model_cred.specs.Process.{State}
use Rattle.model_cred.specs.Space.{Spaces, stands}
use Rattle.model_box.specs.Closed.{ClosedAt}
use Rattle.model_box.specs.Row.{Part, Row, row_at, space_under}
use Rattle.model_box.specs.Rule.{Rule, rule_number}
use Rattle.model_box.specs.Start.{HoldsStartAt}

-- The row of that number, which is of a standing space, lacks what the start bounds hold there, and no earlier one
-- does.
pub record IsFirstLacking (s : State) (members : List ℕ) (bounds : Row → Part → ℕ → Type 0) (y : ℕ) : Type 0 where
  pub stands : IsTrue (stands s.spaces (space_under (row_at y)))
  pub lacks : HoldsStartAt s members bounds (row_at y) → ⊥
  pub earlier : (z : ℕ) → z < y → HoldsStartAt s members bounds (row_at z)

-- The rule is closed at each row of a standing space.
abbrev pub ClosedIn : (CallKind → Bool) → FileTable → Spaces → (Row → Part → ℕ → Type 0) → Rule → Type 0
ClosedIn permitted files spaces bounds rule =
    (row : Row) → IsTrue (stands spaces (space_under row)) → ClosedAt permitted files spaces bounds rule row

-- The rule is open at the row of that number, which is of a standing space, and closed at each earlier one.
pub record IsFirstOpenRow (permitted : CallKind → Bool) (files : FileTable) (spaces : Spaces)
    (bounds : Row → Part → ℕ → Type 0) (rule : Rule) (y : ℕ) : Type 0 where
  pub stands : IsTrue (stands spaces (space_under (row_at y)))
  pub unmet : ClosedAt permitted files spaces bounds rule (row_at y) → ⊥
  pub earlier : (z : ℕ) → z < y → ClosedAt permitted files spaces bounds rule (row_at z)

-- So it is, and each earlier rule is closed.
pub record IsFirstOpen (permitted : CallKind → Bool) (files : FileTable) (spaces : Spaces)
    (bounds : Row → Part → ℕ → Type 0) (rule : Rule) (y : ℕ) : Type 0 where
  pub row : IsFirstOpenRow permitted files spaces bounds rule y
  pub earlier : (other : Rule) → rule_number other < rule_number rule → ClosedIn permitted files spaces bounds other
