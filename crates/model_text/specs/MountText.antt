-- The mounts that a world's text declares (choice): a row's keys, its faults, and the mount that it adds to those before it.
-- The mount `root` always stands as the first.
use Rattle.std.specs.Prelude.{ℕ, codes, ◌||◌, not, is_none, bytes_eq, map, position, Bool, List, [], ◌∷◌, ◌++◌, Option, Some, None, Result, unwrap_or}
use Rattle.cm_base.specs.declared.faults.WorldFault.TheVariants.{BadName, TwiceNamed, NoSuchSpace, BadMap}
use Rattle.model_cred.specs.Files.{MapPair, Mount, plain_mount}
use Rattle.model_cred.specs.IdMap.{Extent, initial_map}
use Rattle.model_text.specs.Keys.{Key, key, Text, Flag, Extents, Required, Optional, Beside, key_checks}
use Rattle.model_text.specs.MapText.{map_at, is_bad_map}
use Rattle.model_text.specs.NameText.{is_name, is_one_of}
use Rattle.model_text.specs.Refusal.{Cause, Fault, first_standing, unless}
use Rattle.model_text.specs.SpaceText.{name_of, space_named}
use Rattle.model_text.specs.Toml.{flag_of, text_or}
use Rattle.toml.specs.Data.{Members, get_member}

-- the mount `root` alone
abbrev pub root_alone : List Mount
root_alone = plain_mount (codes "root") ∷ []

-- the number of the first of the mounts of that name
abbrev pub mount_named : List Mount → List ℕ → Option ℕ
mount_named mounts name = position (λ m. bytes_eq m.name name) mounts

-- the keys of a mount; of its own two maps it has both or neither
abbrev pub mount_keys : List Key
mount_keys =
    key (codes "name") Text Required
    ∷ key (codes "space") Text Optional
    ∷ key (codes "nosuid") Flag Optional
    ∷ key (codes "noexec") Flag Optional
    ∷ key (codes "fs_uid_map") Extents Optional
    ∷ key (codes "fs_gid_map") Extents Optional
    ∷ key (codes "uid_map") Extents (Beside (codes "gid_map"))
    ∷ key (codes "gid_map") Extents (Beside (codes "uid_map")) ∷ []

-- the number of the space that a row names, the initial one where it names none
abbrev pub space_of_row : List (List ℕ) → Members → Option ℕ
space_of_row names row = space_named names (text_or (codes "init") (codes "space") row)

-- two maps, where both are there
abbrev pub both_maps : Option (List Extent) → Option (List Extent) → Option MapPair
both_maps (Some uids) (Some gids) = Some (record { uids = uids; gids = gids })
both_maps _ _ = None

-- the faults of a row beside those of its keys, in their order; `names` are those of the declared spaces
abbrev pub mount_checks : List (List ℕ) → List Mount → Members → List (Cause × Bool)
mount_checks names before row =
    (Fault BadName, not (is_name (name_of row)))
    ∷ (Fault TwiceNamed, is_one_of (map (λ m. m.name) before) (name_of row))
    ∷ (Fault NoSuchSpace, is_none (space_of_row names row))
    ∷ (
      Fault BadMap,
      is_bad_map (map_at (codes "fs_uid_map") row) || is_bad_map (map_at (codes "fs_gid_map") row)
          || is_bad_map (map_at (codes "uid_map") row) || is_bad_map (map_at (codes "gid_map") row),
    ) ∷ []

-- the mount that a row without faults declares
abbrev pub mount_declared : List (List ℕ) → Members → Mount
mount_declared names row = record {
  name = name_of row;
  fs = record {
    uids = unwrap_or (map_at (codes "fs_uid_map") row) initial_map;
    gids = unwrap_or (map_at (codes "fs_gid_map") row) initial_map;
  };
  map = both_maps (map_at (codes "uid_map") row) (map_at (codes "gid_map") row);
  space = unwrap_or (space_of_row names row) 0;
  nosuid = flag_of (get_member (codes "nosuid") row);
  noexec = flag_of (get_member (codes "noexec") row);
}

-- the mounts with that of one row more
abbrev pub mount_row : List (List ℕ) → List Mount → Members → Result (List Mount) Cause
mount_row names before row =
    unless (first_standing (key_checks mount_keys row ++ mount_checks names before row)) (before ++ mount_declared names row ∷ [])
