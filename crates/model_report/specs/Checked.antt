-- What rows of bounds are found to be, test after test: whether they show that a family never holds a right.
use Rattle.std.specs.Prelude.{ℕ, List}
use Rattle.cm_filter.specs.Filters.{permits}
use Rattle.model_run.specs.Own.{common_filter}
use Rattle.model_box.specs.Bounds.{BoxRow, bounds_hold}
use Rattle.model_box.specs.Covers.{Covers}
use Rattle.model_box.specs.Encloses.{Encloses}
use Rattle.model_box.specs.Firsts.{IsFirstLacking, IsFirstOpen}
use Rattle.model_box.specs.Laws.{tested}
use Rattle.model_box.specs.Meets.{Meets, IsFirstMet}
use Rattle.model_box.specs.Row.{Part, Row, row_number}
use Rattle.model_cred.specs.Process.{State}
use Rattle.model_cred.specs.Right.{Right}
use Rattle.model_cred.specs.World.{World}
use Rattle.model_verdict.specs.Sweep.{Turn}

-- The first of these that stands: a row lacks what a member has now, or an outside id of its space's maps; the rows aren't
-- closed, by a rule at a row; they meet the right, by a row. Else they hold.
pub data Checked : Type 0 where
  NotStart : Row → Checked
  NotClosed : Turn → Checked
  MeetsRight : Row → Checked
  Holds : Checked

-- what the rows hold, as bounds
abbrev pub RowsHold : List BoxRow → Row → Part → ℕ → Type 0
RowsHold rows = tested (bounds_hold rows)

-- The rows cover the members now, and this is the first rule and row at which they aren't closed under the filter that
-- is common to the world and the members.
pub record IsFirstOpenIn (w : World) (s : State) (members : List ℕ) (rows : List BoxRow) (turn : Turn) : Type 0 where
  pub covers : Covers s members s members (RowsHold rows)
  pub first : IsFirstOpen (permits (common_filter w s members)) w.files s.spaces (RowsHold rows) turn.rule (row_number turn.row)

-- the rows enclose the members under that filter
abbrev pub EnclosesIn : World → State → List ℕ → List BoxRow → Type 0
EnclosesIn w s members rows = Encloses (permits (common_filter w s members)) w.files s members (RowsHold rows)

-- They do, and this is the first row by which they meet the right.
pub record IsFirstMetIn (w : World) (s : State) (members : List ℕ) (rows : List BoxRow) (right : Right) (row : Row) : Type 0
  where
    pub encloses : EnclosesIn w s members rows
    pub first : IsFirstMet s.spaces (RowsHold rows) right row

-- They do, and don't meet the right.
pub record RowsExclude (w : World) (s : State) (members : List ℕ) (right : Right) (rows : List BoxRow) : Type 0 where
  pub encloses : EnclosesIn w s members rows
  pub apart : Meets s.spaces (RowsHold rows) right → ⊥

-- Which of them it is.
abbrev pub IsChecked : World → State → List ℕ → Right → List BoxRow → Checked → Type 0
IsChecked w s members right rows (NotStart row) = IsFirstLacking s members (RowsHold rows) (row_number row)
IsChecked w s members right rows (NotClosed turn) = IsFirstOpenIn w s members rows turn
IsChecked w s members right rows (MeetsRight row) = IsFirstMetIn w s members rows right row
IsChecked w s members right rows Holds = RowsExclude w s members right rows
