-- What the members of a row can gain by execve from one file, as its mount shows it.
use Rattle.std.specs.Prelude.{◌≡◌, ◌⊎◌, ℕ, Bool, not, IsTrue, is_some, is_none, List, Option, None, Some, slice_get}
use Rattle.cm_base.specs.CapSet.{holds}
use Rattle.model_cred.specs.Files.{FileTable, Mount}
use Rattle.model_cred.specs.IdMap.{Extent, down, is_the}
use Rattle.model_cred.specs.Space.{Spaces, is_at_or_above, stands, space_of}
use Rattle.model_rules.specs.Caps.{cap_dac_override}
use Rattle.model_rules.specs.Exec.{attribute_sets, interpreter_of}
use Rattle.model_rules.specs.FileView.{FileView, has_bit, may_raise_in}
use Rattle.model_box.specs.Row.{Part, FsUids, FsGids, Groups, MappedUids, MappedGids, PermittedCaps, InheritableCaps}
use Rattle.model_box.specs.Row.{BoundingCaps, NewPrivs, Row, Standing, Fresh, space_under}

-- the optional id is there, and is in the set
abbrev pub IdIn : Option ℕ → (ℕ → Type 0) → Type 0
IdIn None Set = ⊥
IdIn (Some x) Set = Set x

-- the set has an id other than the optional one
abbrev pub HasOther : (ℕ → Type 0) → Option ℕ → Type 0
HasOther Set id = (x : ℕ) × Set x × IsTrue (not (is_the id x))

-- A member may run the file: its mount isn't noexec, and the bit of the owner, of the group or of the others can be the
-- one that counts, or CAP_DAC_OVERRIDE allows it.
abbrev pub CanRun : (Part → ℕ → Type 0) → FileView → Type 0
CanRun row f =
    IsTrue (not f.noexec)
    × ((IdIn f.owner (row FsUids) × IsTrue (has_bit f 0o100))
    ⊎ ((IdIn f.group (row FsGids) ⊎ IdIn f.group (row Groups)) × HasOther (row FsUids) f.owner × IsTrue (has_bit f 0o010))
    ⊎ (HasOther (row FsUids) f.owner × HasOther (row FsGids) f.group × IsTrue (has_bit f 0o001))
    ⊎ (row PermittedCaps cap_dac_override × IdIn f.owner (row MappedUids) × IdIn f.group (row MappedGids) × IsTrue (has_bit f 0o111)))

-- The file's set-id bits can count for a member in the row of that standing space.
abbrev pub SetIdCan : Spaces → ℕ → (Part → ℕ → Type 0) → FileView → Type 0
SetIdCan spaces n row f =
    row NewPrivs 0 × IsTrue (may_raise_in spaces n f) × IdIn f.owner (row MappedUids) × IdIn f.group (row MappedGids)

-- The ids that may be inside 0 of a space: that of its map where it is written, else all that it may map.
abbrev pub MayBeZero : Option (List Extent) → (ℕ → Type 0) → ℕ → Type 0
MayBeZero None Mapped x = Mapped x
MayBeZero (Some map) Mapped x = IsTrue (is_the (down map 0) x)

-- The ids that may be inside 0 of the spaces of a row: for later spaces all that they may map.
abbrev pub ZeroIn : Spaces → (Row → Part → ℕ → Type 0) → Row → ℕ → Type 0
ZeroIn spaces bounds (Standing n) x = MayBeZero (space_of spaces n).uids (bounds (Standing n) MappedUids) x
ZeroIn spaces bounds (Fresh n) x = bounds (Fresh n) MappedUids x

-- the optional id may be inside 0 of the standing space or of one above it
abbrev pub ZeroAbove : Spaces → (Row → Part → ℕ → Type 0) → ℕ → Option ℕ → Type 0
ZeroAbove spaces bounds n id = (a : ℕ) × IsTrue (is_at_or_above spaces a n) × IdIn id (ZeroIn spaces bounds (Standing a))

-- the optional id may be inside 0 of a space of the row or of one above it
abbrev pub RootCan : Spaces → (Row → Part → ℕ → Type 0) → Row → Option ℕ → Type 0
RootCan spaces bounds (Standing n) id = ZeroAbove spaces bounds n id
RootCan spaces bounds (Fresh n) id = IdIn id (ZeroIn spaces bounds (Fresh n)) ⊎ ZeroAbove spaces bounds n id

-- The file's attribute can take effect for a member in the row.
abbrev pub TakesCan : Spaces → (Row → Part → ℕ → Type 0) → Row → FileView → Type 0
TakesCan spaces bounds row f =
    bounds row NewPrivs 0 × IsTrue (is_some f.caps) × IsTrue (may_raise_in spaces (space_under row) f)
    × RootCan spaces bounds row f.root

-- the row of the table is no script
abbrev pub is_program : FileTable → ℕ → Bool
is_program files k = is_none (interpreter_of files k)

-- the capabilities that the file's own sets can bring
abbrev pub FileGives : (Part → ℕ → Type 0) → FileView → ℕ → Type 0
FileGives row f x =
    (row InheritableCaps x × IsTrue (holds (attribute_sets f.caps).inheritable x))
    ⊎ (IsTrue (holds (attribute_sets f.caps).permitted x) × row BoundingCaps x)

-- What declared files keep beside the spaces: each mount's space stands, and no interpreter is itself a script.
pub record FilesFit (files : FileTable) (spaces : Spaces) : Type 0 where
  pub mounts : (k : ℕ) (m : Mount) → slice_get files.mounts k ≡ Some m → IsTrue (stands spaces m.space)
  pub interpreters : (row k : ℕ) → interpreter_of files row ≡ Some k → interpreter_of files k ≡ None
