-- A row whose sets are known to ascend, three by three.
use Rattle.std.proofs.Common.{◌≡◌, ◌&&◌, List, Bool, true, Option, Some, None}
use Rattle.std.specs.Prelude.{if◌then◌else◌}
use Rattle.model_box.specs.Bounds.{BoxRow}
use Rattle.model_cert.specs.Row.{three_ascend, sets_ascend}
use Rattle.model_cred.specs.Intervals.{Interval}

abbrev pub Three : Type 0
Three = List Interval × List Interval × List Interval

-- the row with these sets in place of its own
abbrev pub with_sets : BoxRow → Three → Three → Three → BoxRow
with_sets row a b c = record {
  uids = a.0;
  effective_uids = a.1;
  fs_uids = a.2;
  gids = b.0;
  effective_gids = b.1;
  fs_gids = b.2;
  groups = c.0;
  mapped_uids = c.1;
  mapped_gids = c.2;
  permitted = row.permitted;
  inheritable = row.inheritable;
  bounding = row.bounding;
  no_new_privs = row.no_new_privs;
  root_counts = row.root_counts;
  lock_clear = row.lock_clear;
}

-- the value, if the test holds
abbrev kept_if : {A : Type 0} → Bool → A → Option A
kept_if test x = if test then Some x else None

all_kept : (p q r : Bool) (make : Three → Three → Three → BoxRow) (a a' b b' c c' : Three)
    → Some a ≡ kept_if p a' → Some b ≡ kept_if q b' → Some c ≡ kept_if r c'
    → Some (make a b c) ≡ kept_if (p && q && r) (make a' b' c')
all_kept true true true make a a' b b' c c' x y z = cc
all_kept _ _ _ make a a' b b' c c' x y z = cc

-- the three sets, if they ascend
abbrev three_kept : Three → Option Three
three_kept t = kept_if (three_ascend t.0 t.1 t.2) t

pub row_kept : (row : BoxRow) (a b c : Three)
    → Some a ≡ three_kept (row.uids, row.effective_uids, row.fs_uids)
    → Some b ≡ three_kept (row.gids, row.effective_gids, row.fs_gids)
    → Some c ≡ three_kept (row.groups, row.mapped_uids, row.mapped_gids)
    → Some (with_sets row a b c) ≡ kept_if (sets_ascend row) row
row_kept row a b c x y z =
    let ascend = λ (t : Three). three_ascend t.0 t.1 t.2 in
    let uids : Three = (row.uids, row.effective_uids, row.fs_uids) in
    let gids : Three = (row.gids, row.effective_gids, row.fs_gids) in
    let rest : Three = (row.groups, row.mapped_uids, row.mapped_gids) in
    all_kept (ascend uids) (ascend gids) (ascend rest) (with_sets row) a uids b gids c rest x y z
