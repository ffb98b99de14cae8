-- Two ways to find the least bounds.
use Rattle.std.specs.Prelude.{◌≡◌, ℕ, ◌*◌, Bool, List, length, All}
use Rattle.cm_filter.specs.declared.kind.CallKind.{CallKind}
use Rattle.model_cred.specs.Files.{FileTable}
use Rattle.model_cred.specs.Process.{State}
use Rattle.model_box.specs.Bounds.{BoxRow, bounds_hold}
use Rattle.model_verdict.specs.Least.{IsLeast}
use Rattle.model_verdict.specs.Rows.{IsRow}

-- What the contracts of `least` and of `least_by_rounds` tell alike of the rows that they give.
pub record IsFound (permitted : CallKind → Bool) (files : FileTable) (s : State) (members : List ℕ)
    (rows : List BoxRow) : Type 0 where
  pub count : length rows ≡ 2 * length s.spaces
  pub least : IsLeast permitted files s members (bounds_hold rows)
  pub written : All IsRow rows

-- So they give one list of rows.
unfoldable pub BothGiveOneList : Type 0
BothGiveOneList =
    (permitted : CallKind → Bool) (files : FileTable) (s : State) (members : List ℕ) (one other : List BoxRow)
    → IsFound permitted files s members one → IsFound permitted files s members other → one ≡ other
