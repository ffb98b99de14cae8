-- Bounds as lists of rows, a row as the sets of its parts: what is printed, and what code keeps.
use Rattle.std.specs.Prelude.{ℕ, ◌==◌, ◌&&◌, Bool, true, false, not, List, [], slice_index_or}
use Rattle.cm_base.specs.CapSet.{holds, none}
use Rattle.model_cred.specs.Intervals.{Interval, ids_hold}
use Rattle.model_box.specs.Row.{Part, Uids, EffectiveUids, FsUids, Gids, EffectiveGids, FsGids, Groups, MappedUids}
use Rattle.model_box.specs.Row.{MappedGids, PermittedCaps, InheritableCaps, BoundingCaps, NewPrivs, RootCounts}
use Rattle.model_box.specs.Row.{LockClear}

-- The sets of a row: nine of ids, as intervals, three of capabilities, and three flags. All of the members have
-- no_new_privs; SECBIT_NOROOT may be clear; its lock may be clear.
pub record BoxRow : Type 0 where
  pub uids : List Interval
  pub effective_uids : List Interval
  pub fs_uids : List Interval
  pub gids : List Interval
  pub effective_gids : List Interval
  pub fs_gids : List Interval
  pub groups : List Interval
  pub mapped_uids : List Interval
  pub mapped_gids : List Interval
  pub permitted : ℕ
  pub inheritable : ℕ
  pub bounding : ℕ
  pub no_new_privs : Bool
  pub root_counts : Bool
  pub lock_clear : Bool

-- the row has the number in that part
abbrev pub row_has : BoxRow → Part → ℕ → Bool
row_has row Uids x = ids_hold row.uids x
row_has row EffectiveUids x = ids_hold row.effective_uids x
row_has row FsUids x = ids_hold row.fs_uids x
row_has row Gids x = ids_hold row.gids x
row_has row EffectiveGids x = ids_hold row.effective_gids x
row_has row FsGids x = ids_hold row.fs_gids x
row_has row Groups x = ids_hold row.groups x
row_has row MappedUids x = ids_hold row.mapped_uids x
row_has row MappedGids x = ids_hold row.mapped_gids x
row_has row PermittedCaps x = holds row.permitted x
row_has row InheritableCaps x = holds row.inheritable x
row_has row BoundingCaps x = holds row.bounding x
row_has row NewPrivs x = x == 0 && not row.no_new_privs
row_has row RootCounts x = x == 0 && row.root_counts
row_has row LockClear x = x == 0 && row.lock_clear

-- the least row: it has nothing
abbrev pub no_row : BoxRow
no_row = record {
  uids = [];
  effective_uids = [];
  fs_uids = [];
  gids = [];
  effective_gids = [];
  fs_gids = [];
  groups = [];
  mapped_uids = [];
  mapped_gids = [];
  permitted = none;
  inheritable = none;
  bounding = none;
  no_new_privs = true;
  root_counts = false;
  lock_clear = false;
}

-- the row of that number; past the end of the list the least one
abbrev pub row_in : List BoxRow → ℕ → BoxRow
row_in rows y = slice_index_or rows y no_row

-- what bounds hold that are such a list
abbrev pub bounds_hold : List BoxRow → ℕ → Part → ℕ → Bool
bounds_hold rows y part x = row_has (row_in rows y) part x
