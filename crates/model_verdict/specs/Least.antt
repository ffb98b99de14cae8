-- The least bounds that are closed and cover the members at the query. "Least" is said of all bounds that a test gives.
use Rattle.std.specs.Prelude.{◌↔◌, ℕ, zero, suc, Bool, false, List, [], ◌∷◌}
use Rattle.cm_filter.specs.declared.kind.CallKind.{CallKind}
use Rattle.model_cred.specs.Files.{FileTable}
use Rattle.model_cred.specs.Process.{State, KeepsState}
use Rattle.model_cred.specs.Right.{Right}
use Rattle.model_box.specs.Row.{Part, Row, IsWithin}
use Rattle.model_box.specs.Encloses.{Encloses}
use Rattle.model_box.specs.Laws.{tested}
use Rattle.model_box.specs.Meets.{Meets}

-- bounds that a test gives: of the number of a row, a part and a number
abbrev pub Test : Type 0
Test = ℕ → Part → ℕ → Bool

-- the test says what the bounds hold
abbrev pub Says : Test → (Row → Part → ℕ → Type 0) → Type 0
Says test bounds = (row : Row) (part : Part) (x : ℕ) → tested test row part x ↔ bounds row part x

-- The bounds are the least of those that are closed and cover the members at the query: each other such bounds hold them.
pub record IsLeast (permitted : CallKind → Bool) (files : FileTable) (s : State) (members : List ℕ) (bounds : Test)
    : Type 0 where
  pub encloses : Encloses permitted files s members (tested bounds)
  pub within : (other : Test) → Encloses permitted files s members (tested other) → IsWithin (tested bounds) (tested other)

-- There are least bounds, of each state.
unfoldable pub LeastExist : Type 0
LeastExist = (permitted : CallKind → Bool) (files : FileTable) (s : State) (members : List ℕ) → KeepsState s
    → (bounds : Test) × IsLeast permitted files s members bounds

-- Two least bounds are one.
unfoldable pub OneLeast : Type 0
OneLeast = (permitted : CallKind → Bool) (files : FileTable) (s : State) (members : List ℕ) (bounds other : Test)
    → IsLeast permitted files s members bounds → IsLeast permitted files s members other
    → (row : Row) (part : Part) (x : ℕ) → tested bounds row part x ↔ tested other row part x

-- each bounds that are closed and cover the members meet the right
abbrev pub AllMeet : (CallKind → Bool) → FileTable → State → List ℕ → Right → Type 0
AllMeet permitted files s members right =
    (bounds : Test) → Encloses permitted files s members (tested bounds) → Meets s.spaces (tested bounds) right

-- The least bounds meet a right exactly where all closed covering bounds do: so some that don't meet it are there
-- exactly where the least ones don't.
unfoldable pub LeastMeetIfAllDo : Type 0
LeastMeetIfAllDo =
    (permitted : CallKind → Bool) (files : FileTable) (s : State) (members : List ℕ) (right : Right) (bounds : Test)
    → IsLeast permitted files s members bounds
    → Meets s.spaces (tested bounds) right ↔ AllMeet permitted files s members right

-- Rows as a list, each a test of a part and a number. Past its end there is nothing.
abbrev pub listed : List (Part → ℕ → Bool) → Test
listed [] y part x = false
listed (row ∷ rows) zero part x = row part x
listed (row ∷ rows) (suc y) part x = listed rows y part x

-- The least bounds are within each list of rows that is closed and covers the members.
unfoldable pub LeastWithinLists : Type 0
LeastWithinLists =
    (permitted : CallKind → Bool) (files : FileTable) (s : State) (members : List ℕ) (bounds : Test)
    → IsLeast permitted files s members bounds → (rows : List (Part → ℕ → Bool))
    → Encloses permitted files s members (tested (listed rows)) → IsWithin (tested bounds) (tested (listed rows))
