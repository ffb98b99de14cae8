-- An id that a program gives to the members of a row.
use Rattle.std.specs.Prelude.{ℕ, Bool, List, IsTrue}
use Rattle.cm_filter.specs.declared.kind.CallKind.{CallKind}
use Rattle.cm_filter.specs.declared.kind.CallKind.TheVariants as call
use Rattle.cm_box_rows.specs.declared.kind.IdKind.{IdKind}
use Rattle.cm_box_rows.specs.Kinds.{effective}
use Rattle.cm_box_rows.specs.Programs.{GivenByFile}
use Rattle.cm_box_rows.specs.Rows.{RowsHold}
use Rattle.model_cred.specs.Files.{FileTable}
use Rattle.model_cred.specs.Space.{Spaces}
use Rattle.model_box.specs.Bounds.{BoxRow}
use Rattle.model_box.specs.Row.{row_at, space_under, HasMembers}

-- A program gives the id to the members of the row of that number, and the row lacks it among its effective ones.
pub record Comes (permitted : CallKind → Bool) (files : FileTable) (spaces : Spaces) (rows : List BoxRow) (y : ℕ)
    (kind : IdKind) (id : ℕ) : Type 0 where
  pub may : IsTrue (permitted call.Exec)
  pub members : HasMembers (RowsHold rows (row_at y))
  pub given : GivenByFile kind files spaces (space_under (row_at y)) (RowsHold rows (row_at y)) id
  pub lacking : RowsHold rows (row_at y) (effective kind) id → ⊥
