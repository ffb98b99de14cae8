-- The id maps of a mount's row: those of its filesystem, and its own (mount_setattr(2)).
use Rattle.std.specs.Prelude.{codes, ◌||◌, Bool, Option, unwrap_or}
use Rattle.model_cred.specs.Files.{MapPair}
use Rattle.model_cred.specs.IdMap.{initial_map}
use Rattle.model_text.specs.MapText.{map_at, is_bad_map}
use Rattle.model_text.specs.MountText.{both_maps}
use Rattle.toml.specs.Data.{Members}

-- the maps of the filesystem: one that isn't declared takes each id to itself
abbrev pub fs_maps : Members → MapPair
fs_maps row = record {
  uids = unwrap_or (map_at (codes "fs_uid_map") row) initial_map;
  gids = unwrap_or (map_at (codes "fs_gid_map") row) initial_map;
}

-- the mount's own maps, where both are declared
abbrev pub own_maps : Members → Option MapPair
own_maps row = both_maps (map_at (codes "uid_map") row) (map_at (codes "gid_map") row)

-- one of the four lists that may be declared is no map
abbrev pub has_bad_map : Members → Bool
has_bad_map row = is_bad_map (map_at (codes "fs_uid_map") row) || is_bad_map (map_at (codes "fs_gid_map") row)
    || is_bad_map (map_at (codes "uid_map") row) || is_bad_map (map_at (codes "gid_map") row)
