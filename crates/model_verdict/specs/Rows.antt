-- Rows by what they hold. A row has one way to be written.
use Rattle.std.specs.Prelude.{◌≡◌, ◌↔◌, ◌<◌, ℕ, Bool, IsTrue, List, length, All}
use Rattle.cm_base.specs.CapSet.{cap_count}
use Rattle.cm_base.specs.Limits.{id_count}
use Rattle.cm_filter.specs.declared.kind.CallKind.{CallKind}
use Rattle.model_cred.specs.Files.{FileTable}
use Rattle.model_cred.specs.Intervals.{IsCanonical}
use Rattle.model_cred.specs.Process.{State}
use Rattle.model_cred.specs.Space.{Spaces, stands}
use Rattle.model_box.specs.Bounds.{BoxRow, bounds_hold}
use Rattle.model_box.specs.Laws.{tested}
use Rattle.model_box.specs.Row.{Part, Uids, EffectiveUids, FsUids, Gids, EffectiveGids, FsGids, Groups, MappedUids, MappedGids}
use Rattle.model_box.specs.Row.{PermittedCaps, InheritableCaps, BoundingCaps, NewPrivs, RootCounts, LockClear, Row, space_under}
use Rattle.model_verdict.specs.Least.{Test, IsLeast}
use Rattle.model_verdict.specs.Sweep.{row_count}

-- Each set of ids of the row is written in the one way.
pub record IsRow (row : BoxRow) : Type 0 where
  pub uids : IsCanonical row.uids
  pub effective_uids : IsCanonical row.effective_uids
  pub fs_uids : IsCanonical row.fs_uids
  pub gids : IsCanonical row.gids
  pub effective_gids : IsCanonical row.effective_gids
  pub fs_gids : IsCanonical row.fs_gids
  pub groups : IsCanonical row.groups
  pub mapped_uids : IsCanonical row.mapped_uids
  pub mapped_gids : IsCanonical row.mapped_gids

-- Rows of bounds: two of each space, each set of ids written in the one way.
pub record AreBounds (spaces : Spaces) (rows : List BoxRow) : Type 0 where
  pub count : length rows ≡ row_count spaces
  pub written : All IsRow rows

-- the two lists of rows hold the same
abbrev pub HoldSame : List BoxRow → List BoxRow → Type 0
HoldSame one other =
    (row : Row) (part : Part) (x : ℕ)
    → tested (bounds_hold one) row part x ↔ tested (bounds_hold other) row part x

-- Two lists of as many such rows that hold the same are one list.
unfoldable pub OneMeaningOneList : Type 0
OneMeaningOneList =
    (one other : List BoxRow) → All IsRow one → All IsRow other → length one ≡ length other → HoldSame one other
    → one ≡ other

-- So the least bounds have one way to be told in rows, however they were found.
unfoldable pub LeastRowsAreOne : Type 0
LeastRowsAreOne =
    (permitted : CallKind → Bool) (files : FileTable) (s : State) (members : List ℕ) (one other : List BoxRow)
    → IsLeast permitted files s members (bounds_hold one) → IsLeast permitted files s members (bounds_hold other)
    → AreBounds s.spaces one → AreBounds s.spaces other → one ≡ other

-- ---- rows that say what bounds hold
-- what each number of a part is below: ids, capabilities, and the 0 of a flag
abbrev pub part_limit : Part → ℕ
part_limit Uids = id_count
part_limit EffectiveUids = id_count
part_limit FsUids = id_count
part_limit Gids = id_count
part_limit EffectiveGids = id_count
part_limit FsGids = id_count
part_limit Groups = id_count
part_limit MappedUids = id_count
part_limit MappedGids = id_count
part_limit PermittedCaps = cap_count
part_limit InheritableCaps = cap_count
part_limit BoundingCaps = cap_count
part_limit NewPrivs = 1
part_limit RootCounts = 1
part_limit LockClear = 1

-- What the bounds hold is in rows of standing spaces, and below the limit of its part.
pub record AreLow (spaces : Spaces) (bounds : Row → Part → ℕ → Type 0) : Type 0 where
  pub stand : (row : Row) (part : Part) (x : ℕ) → bounds row part x → IsTrue (stands spaces (space_under row))
  pub low : (row : Row) (part : Part) (x : ℕ) → bounds row part x → x < part_limit part

-- rows of bounds that say what a test says
pub record RowsSaying (spaces : Spaces) (test : Test) : Type 0 where
  pub rows : List BoxRow
  pub bounds : AreBounds spaces rows
  pub says : (row : Row) (part : Part) (x : ℕ) → tested (bounds_hold rows) row part x ↔ tested test row part x

-- There are rows that say what each such test says.
unfoldable pub RowsSayEachTest : Type 0
RowsSayEachTest = (spaces : Spaces) (test : Test) → AreLow spaces (tested test) → RowsSaying spaces test
