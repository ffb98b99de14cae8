-- The mounts that a world's text declares keep what mounts keep, and the space of each stands.
use Rattle.std.proofs.Common.{◌≡◌, ℕ, ◌+◌, ◌<◌, ◌||◌, Bool, false, List, [], ◌++◌, length, Option, Some, Ok}
use Rattle.std.proofs.Common.{IfSome, codes, refl, subst, lit<, arith, All}
use Rattle.std.proofs.lemmas.Bool.{or_parts}
use Rattle.std.proofs.lemmas.List.{length_push}
use Rattle.std.proofs.lemmas.List.Elements.{All-nil, All-cons, All-push}
use Rattle.cm_base.specs.declared.faults.Table.TheVariants as table
use Rattle.cm_base.specs.declared.limited.Limited.TheVariants as limit
use Rattle.model_cred.specs.Files.{KeepsMount, KeepsPair, MapPair, Mount, plain_mount}
use Rattle.model_cred.specs.IdMap.{Extent, initial_map}
use Rattle.model_cred.specs.MapFault.{IsMap}
use Rattle.model_rules.proofs.Downs.{map_has_ids}
use Rattle.model_text.proofs.KeepsSpaces.{good_map}
use Rattle.model_text.proofs.Rows.{any_rows, none_stands, read_ok, rows_keep, unless_ok}
use Rattle.model_text.proofs.Values.{or_default, row_space_within}
use Rattle.model_text.specs.Keys.{key_checks}
use Rattle.model_text.specs.MapText.{map_at, is_bad_map}
use Rattle.model_text.specs.MountText.{both_maps, mount_checks, mount_declared, mount_keys, mount_row, root_alone}
use Rattle.model_text.specs.Refusal.{first_standing, read_rows}
use Rattle.toml.specs.Data.{Items, Members}

-- ---- maps
pair_keeps : (maps : MapPair) → IsMap maps.uids → IsMap maps.gids → KeepsPair maps
pair_keeps maps uids gids = record {
  uids = map_has_ids maps.uids uids;
  gids = map_has_ids maps.gids gids;
  uid_map = uids;
  gid_map = gids;
}

both_keep : (uids gids : Option (List Extent)) → IfSome uids IsMap → IfSome gids IsMap → IfSome (both_maps uids gids) KeepsPair
both_keep (Some uids) (Some gids) is are = pair_keeps (record { uids = uids; gids = gids }) is are
both_keep _ _ is are = tt

-- ---- mounts
-- There is a mount, each keeps what a mount keeps, and its space is one of so many.
pub record KeepMounts (spaces : ℕ) (mounts : List Mount) : Type 0 where
  pub some : 0 < length mounts
  pub each : All KeepsMount mounts
  pub stand : All (λ m. m.space < spaces) mounts

root_keeps : (spaces : ℕ) → 0 < spaces → KeepMounts spaces root_alone
root_keeps spaces some = record {
  some = lit< tt;
  each = All-cons KeepsMount (plain_mount (codes "root")) []
      (record { fs = pair_keeps (record { uids = initial_map; gids = initial_map }) refl refl; map = tt }) (All-nil KeepsMount);
  stand = All-cons (λ m. m.space < spaces) (plain_mount (codes "root")) [] some (All-nil (λ (m : Mount). m.space < spaces));
}

declared_keeps : (names : List (List ℕ)) (row : Members)
    → (is_bad_map (map_at (codes "fs_uid_map") row) || is_bad_map (map_at (codes "fs_gid_map") row)
    || is_bad_map (map_at (codes "uid_map") row) || is_bad_map (map_at (codes "gid_map") row)) ≡ false
    → KeepsMount (mount_declared names row)
declared_keeps names row good =
    let fs_uids : Bool = is_bad_map (map_at (codes "fs_uid_map") row) in
    let fs_gids : Bool = is_bad_map (map_at (codes "fs_gid_map") row) in
    let uids : Bool = is_bad_map (map_at (codes "uid_map") row) in
    let gids : Bool = is_bad_map (map_at (codes "gid_map") row) in
    let (three, fourth) = or_parts (fs_uids || fs_gids || uids) gids good in
    let (two, third) = or_parts (fs_uids || fs_gids) uids three in
    let (first, second) = or_parts fs_uids fs_gids two in
    record {
      fs = pair_keeps (mount_declared names row).fs
          (or_default IsMap (map_at (codes "fs_uid_map") row) initial_map (good_map (map_at (codes "fs_uid_map") row) first) refl)
          (or_default IsMap (map_at (codes "fs_gid_map") row) initial_map (good_map (map_at (codes "fs_gid_map") row) second) refl);
      map = both_keep (map_at (codes "uid_map") row) (map_at (codes "gid_map") row)
          (good_map (map_at (codes "uid_map") row) third) (good_map (map_at (codes "gid_map") row) fourth);
    }

one_more : (names : List (List ℕ)) (before : List Mount) (row : Members) (all : List Mount)
    → KeepMounts (length names + 1) before → Unit {0} → mount_row names before row ≡ Ok all → KeepMounts (length names + 1) all
one_more names before row all keeps any is =
    let parts = unless_ok (first_standing (key_checks mount_keys row ++ mount_checks names before row)) _ all is in
    let passed = none_stands (key_checks mount_keys row ++ mount_checks names before row) parts.0 in
    subst (KeepMounts (length names + 1)) parts.1 (record {
      some = let more = length_push before (mount_declared names row) in omega (arith, more);
      each = All-push KeepsMount before (mount_declared names row) keeps.each (declared_keeps names row passed.1.1.1.1.1.1.1.0);
      stand = All-push (λ m. m.space < length names + 1) before (mount_declared names row) keeps.stand (row_space_within names row);
    })

-- the mounts of a world's text, where its spaces have these names
pub mounts_keep : (names : List (List ℕ)) (rows : Items) (mounts : List Mount)
    → read_rows table.Mount limit.Mounts 1 (mount_row names) root_alone rows ≡ Ok mounts → KeepMounts (length names + 1) mounts
mounts_keep names rows mounts is =
    rows_keep table.Mount (mount_row names) (KeepMounts (length names + 1)) (λ row. Unit {0}) (one_more names) 1 root_alone rows mounts
    (root_keeps (length names + 1) (omega arith)) (any_rows rows)
    (read_ok table.Mount limit.Mounts 1 (mount_row names) root_alone rows mounts is).1
