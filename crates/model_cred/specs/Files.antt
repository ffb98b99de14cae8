-- Declared mounts and files.
use Rattle.std.specs.Prelude.{◌≡◌, ℕ, ◌<◌, Bool, false, length, slice_get, List, Option, None, Some, IfSome, IsSomeAnd, All}
use Rattle.std.specs.Prelude.{bytes_eq, position}
use Rattle.cm_base.specs.declared.res.FileRef.{FileRef}
use Rattle.cm_base.specs.declared.res.FileRef.TheVariants.{Row, Plain}
use Rattle.cm_base.specs.CapSet.{IsCapSet}
use Rattle.model_cred.specs.Credential.{IsId}
use Rattle.model_cred.specs.IdMap.{HasIds, Extent, initial_map}
use Rattle.model_cred.specs.MapFault.{IsMap}

-- A map of user ids and a map of group ids.
pub record MapPair : Type 0 where
  pub uids : List Extent
  pub gids : List Extent

-- A mount: its name, the maps of its filesystem, its own maps where it is an idmapped mount (mount_setattr(2)), the
-- number of the space that it belongs to, and two flags (mount(2), MS_NOSUID and MS_NOEXEC).
pub record Mount : Type 0 where
  pub name : List ℕ
  pub fs : MapPair
  pub map : Option MapPair
  pub space : ℕ
  pub nosuid : Bool
  pub noexec : Bool

-- A file's attribute security.capability (capabilities(7), "File capabilities"): its permitted and inheritable sets,
-- its effective bit, and its root id as the filesystem has it, 0 for version 2 (choice).
pub record FileCaps : Type 0 where
  pub permitted : ℕ
  pub inheritable : ℕ
  pub effective : Bool
  pub root : ℕ

-- A declared file: its path, the number of its mount, its owner and group as the initial space sees them, its mode
-- bits (inode(7)), its attribute, and the row of its interpreter where it is a script (execve(2), "Interpreter scripts").
pub record FileRow : Type 0 where
  pub path : List ℕ
  pub mount : ℕ
  pub uid : ℕ
  pub gid : ℕ
  pub mode : ℕ
  pub caps : Option FileCaps
  pub interpreter : Option ℕ

-- The declared mounts and files, each named by its place in the table, from 0 on.
pub record FileTable : Type 0 where
  pub mounts : List Mount
  pub rows : List FileRow

-- the maps in which each id stands for itself
abbrev pub initial_pair : MapPair
initial_pair = record { uids = initial_map; gids = initial_map }

-- a mount of the initial space with that name, without maps or flags (choice)
abbrev pub plain_mount : List ℕ → Mount
plain_mount name = record { name = name; fs = initial_pair; map = None; space = 0; nosuid = false; noexec = false }

-- What an attribute keeps: its sets are sets of capabilities.
pub record KeepsCaps (caps : FileCaps) : Type 0 where
  pub permitted : IsCapSet caps.permitted
  pub inheritable : IsCapSet caps.inheritable

-- What a declared file keeps: owner and group are ids, and its attribute has what an attribute keeps.
pub record KeepsRow (row : FileRow) : Type 0 where
  pub uid : IsId row.uid
  pub gid : IsId row.gid
  pub caps : IfSome row.caps KeepsCaps

-- What two maps keep: they are maps, and their outside ids are ids.
pub record KeepsPair (maps : MapPair) : Type 0 where
  pub uids : HasIds maps.uids
  pub gids : HasIds maps.gids
  pub uid_map : IsMap maps.uids
  pub gid_map : IsMap maps.gids

-- What a mount keeps: so do its filesystem's maps and its own.
pub record KeepsMount (m : Mount) : Type 0 where
  pub fs : KeepsPair m.fs
  pub map : IfSome m.map KeepsPair

-- The row of that number is there, and is no script.
abbrev pub IsProgram : List FileRow → ℕ → Type 0
IsProgram rows n = IsSomeAnd (slice_get rows n) (λ row. row.interpreter ≡ None)

-- What the declared mounts and files keep: each mount and each row by itself, each row's mount is in the table, and
-- each interpreter is a row that is no script itself.
pub record KeepsFiles (files : FileTable) : Type 0 where
  pub mounts : All KeepsMount files.mounts
  pub rows : All KeepsRow files.rows
  pub mounted : All (λ row. row.mount < length files.mounts) files.rows
  pub interpreters : All (λ row. IfSome row.interpreter (IsProgram files.rows)) files.rows

-- the first row of that path
abbrev pub row_named : List FileRow → List ℕ → Option ℕ
row_named rows path = position (λ row. bytes_eq row.path path) rows

-- the row of that number, or the plain file where there is none
abbrev pub ref_of : Option ℕ → FileRef
ref_of None = Plain
ref_of (Some n) = Row n

-- What a path names: its row, or the plain file where no row has it (choice).
abbrev pub file_named : FileTable → List ℕ → FileRef
file_named files path = ref_of (row_named files.rows path)

-- What is named is in the table; the plain file always is.
abbrev pub IsDeclared : FileTable → FileRef → Type 0
IsDeclared files Plain = Unit {0}
IsDeclared files (Row n) = n < length files.rows
