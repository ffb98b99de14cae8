-- What the rows of a certificate are found to be, test after test.
use Rattle.std.specs.Prelude.{ℕ, List}
use Rattle.cm_box.specs.Closing.{IsFirstOpen}
use Rattle.cm_box_rows.specs.Rows.{RowsHold}
use Rattle.cm_box.specs.Rules.{rule_of}
use Rattle.cm_box.specs.declared.rules.Rule.{Rule}
use Rattle.cm_filter.specs.Filters.{permits}
use Rattle.model_box.specs.Bounds.{BoxRow}
use Rattle.model_box.specs.Covers.{Covers}
use Rattle.model_box.specs.Encloses.{Encloses}
use Rattle.model_box.specs.Meets.{Meets, IsFirstMet}
use Rattle.model_box.specs.Row.{row_at}
use Rattle.model_cred.specs.Process.{State}
use Rattle.model_cred.specs.Right.{Right}
use Rattle.model_cred.specs.World.{World}
use Rattle.model_run.specs.Own.{common_filter}

-- The rows cover the members now, and this is the first rule and row at which they aren't closed under the filter that
-- is common to the world and the members.
pub record IsFirstOpenIn (w : World) (s : State) (members : List ℕ) (rows : List BoxRow) (rule : Rule) (y : ℕ)
    : Type 0 where
  pub covers : Covers s members s members (RowsHold rows)
  pub first : IsFirstOpen (permits (common_filter w s members)) w.files s.spaces (RowsHold rows)
      (rule_of rule) y

-- the rows enclose the members under that filter
abbrev pub EnclosesIn : World → State → List ℕ → List BoxRow → Type 0
EnclosesIn w s members rows = Encloses (permits (common_filter w s members)) w.files s members (RowsHold rows)

-- They do, and this is the first row by which they meet the right.
pub record IsFirstMetIn (w : World) (s : State) (members : List ℕ) (rows : List BoxRow) (right : Right) (y : ℕ)
    : Type 0 where
  pub encloses : EnclosesIn w s members rows
  pub first : IsFirstMet s.spaces (RowsHold rows) right (row_at y)

-- They do, and don't meet the right.
pub record Excludes (w : World) (s : State) (members : List ℕ) (rows : List BoxRow) (right : Right) : Type 0 where
  pub encloses : EnclosesIn w s members rows
  pub apart : Meets s.spaces (RowsHold rows) right → ⊥
