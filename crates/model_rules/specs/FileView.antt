-- A file as a space sees it: its owner, group and root id through idmapped mounts (mount_setattr(2); "Idmappings" of the
-- kernel's documentation), and whether its set-id bits and its attribute count (execve(2), user_namespaces(7),
-- capabilities(7)).
use Rattle.std.specs.Prelude.{ℕ, ◌==◌, ◌&&◌, Bool, false, not, bit_and, is_some, List, Option, None, Some, option_map, option_and_then, slice_get}
use Rattle.std.specs.List.{list_any}
use Rattle.model_cred.specs.Files.{FileCaps, FileRow, FileTable, Mount}
use Rattle.model_cred.specs.IdMap.{Extent, down, up, extents_of, is_outside}
use Rattle.model_cred.specs.Space.{Space, Spaces, is_at_or_above, chain, space_of}
use Rattle.model_rules.specs.Zero.{zero_of}

-- What counts of a file and its mount: owner, group and the attribute's root id where they have an image, all as the
-- initial space sees them; the mode bits; the attribute; the mount's flags and the space that it belongs to.
pub record FileView : Type 0 where
  pub owner : Option ℕ
  pub group : Option ℕ
  pub root : Option ℕ
  pub mode : ℕ
  pub caps : Option FileCaps
  pub nosuid : Bool
  pub noexec : Bool
  pub space : ℕ

-- A file that isn't declared: no owner, no set-id bit, no attribute, executable by everyone (choice).
abbrev pub plain_view : FileView
plain_view = record {
  owner = None;
  group = None;
  root = None;
  mode = 0o111;
  caps = None;
  nosuid = false;
  noexec = false;
  space = 0;
}

-- An id of a file on a mount: that of the filesystem where the mount isn't idmapped; else it is taken up through the
-- filesystem's map and down through the mount's.
abbrev pub id_on : List Extent → Option (List Extent) → ℕ → Option ℕ
id_on fs None id = Some id
id_on fs (Some map) id = option_and_then (down map) (up fs id)

-- The attribute's root id on a mount, which is an id of the filesystem: taken down through the filesystem's map; where
-- the mount is idmapped, taken down through the mount's, if it has an image through the filesystem's too.
abbrev pub root_on : List Extent → Option (List Extent) → ℕ → Option ℕ
root_on fs None id = down fs id
root_on fs (Some map) id = option_and_then (λ k. down map id) (down fs id)

-- the mount's own map of user ids, where it is idmapped
abbrev pub mount_uids : Mount → Option (List Extent)
mount_uids m = option_map (λ map. map.uids) m.map

-- the mount's own map of group ids, where it is idmapped
abbrev pub mount_gids : Mount → Option (List Extent)
mount_gids m = option_map (λ map. map.gids) m.map

-- the root id of an optional attribute on a mount
abbrev pub attribute_root : Mount → Option FileCaps → Option ℕ
attribute_root m caps = option_and_then (λ a. root_on m.fs.uids (mount_uids m) a.root) caps

-- a row as its mount shows it
abbrev pub view_on : Mount → FileRow → FileView
view_on m row = record {
  owner = id_on m.fs.uids (mount_uids m) row.uid;
  group = id_on m.fs.gids (mount_gids m) row.gid;
  root = attribute_root m row.caps;
  mode = row.mode;
  caps = row.caps;
  nosuid = m.nosuid;
  noexec = m.noexec;
  space = m.space;
}

-- a row with its mount, where that is in the table
abbrev pub view_if : Option Mount → FileRow → FileView
view_if (Some m) row = view_on m row
view_if None row = plain_view

-- a row as its mount shows it, where it is in the table
abbrev pub view_in : FileTable → Option FileRow → FileView
view_in files (Some row) = view_if (slice_get files.mounts row.mount) row
view_in files None = plain_view

-- a row of the table as its mount shows it (a row or a mount that isn't in the table never comes up)
abbrev pub view : FileTable → ℕ → FileView
view files row = view_in files (slice_get files.rows row)

-- one of these mode bits is set
abbrev pub has_bit : FileView → ℕ → Bool
has_bit file bits = not (bit_and file.mode bits == 0)

-- the optional id is there, and is an outside id of the map
abbrev pub is_mapped_id : List Extent → Option ℕ → Bool
is_mapped_id map None = false
is_mapped_id map (Some id) = is_outside map id

-- owner and group are both mapped in the space
abbrev pub is_mapped_file : Space → FileView → Bool
is_mapped_file s file = is_mapped_id (extents_of s.uids) file.owner && is_mapped_id (extents_of s.gids) file.group

-- Programs of the mount may raise privilege in the space: the mount isn't nosuid, and the space is the mount's or below
-- it (mount(2), MS_NOSUID; that the space matters is a choice).
abbrev pub may_raise_in : Spaces → ℕ → FileView → Bool
may_raise_in spaces n file = not file.nosuid && is_at_or_above spaces file.space n

-- Set-id bits count in the space: moreover owner and group are both mapped in it (user_namespaces(7), "Set-user-ID and
-- set-group-ID programs").
abbrev pub allows_set_id : Spaces → ℕ → FileView → Bool
allows_set_id spaces n file = may_raise_in spaces n file && is_mapped_file (space_of spaces n) file

-- the two optional ids are there and are one
abbrev pub is_same_id : Option ℕ → Option ℕ → Bool
is_same_id (Some a) (Some b) = a == b
is_same_id (Some a) None = false
is_same_id None b = false

-- The attribute takes effect in the space: there is one, programs of the mount may raise privilege in the space, and the
-- space or one above it has the attribute's root id as its inside 0 (capabilities(7), "Namespaced file capabilities").
abbrev pub takes_attribute : Spaces → ℕ → FileView → Bool
takes_attribute spaces n file =
    is_some file.caps && may_raise_in spaces n file && list_any (λ m. is_same_id file.root (zero_of (space_of spaces m))) (chain spaces n)
