-- What the members of a row can do with one file, one by one.
use Rattle.std.specs.Prelude.{◌≡◌, ◌⊎◌, ℕ, ◌&&◌, Bool, IsTrue, Some}
use Rattle.cm_box_rows.specs.declared.kind.IdKind.{IdKind}
use Rattle.cm_box_rows.specs.declared.kind.IdKind.TheVariants.{Users}
use Rattle.cm_box_rows.specs.declared.kind.IdKind.TheVariants as kinds
use Rattle.model_cred.specs.Files.{FileTable}
use Rattle.model_cred.specs.Space.{Spaces}
use Rattle.model_rules.specs.Caps.{cap_dac_override}
use Rattle.model_rules.specs.FileView.{FileView, has_bit, view}
use Rattle.model_box.specs.Files.{IdIn, HasOther, CanRun, SetIdCan, TakesCan, FileGives, is_program}
use Rattle.model_box.specs.Row.{Part, FsUids, FsGids, Groups, MappedUids, MappedGids, PermittedCaps, Row}

-- The owner's bit can be the one that counts.
abbrev pub AsOwner : (Part → ℕ → Type 0) → FileView → Type 0
AsOwner row f = IdIn f.owner (row FsUids) × IsTrue (has_bit f 0o100)

-- The group's bit can be.
abbrev pub AsGroup : (Part → ℕ → Type 0) → FileView → Type 0
AsGroup row f =
    (IdIn f.group (row FsGids) ⊎ IdIn f.group (row Groups)) × HasOther (row FsUids) f.owner × IsTrue (has_bit f 0o010)

-- The bit of the others can be.
abbrev pub AsOther : (Part → ℕ → Type 0) → FileView → Type 0
AsOther row f = HasOther (row FsUids) f.owner × HasOther (row FsGids) f.group × IsTrue (has_bit f 0o001)

-- CAP_DAC_OVERRIDE allows it.
abbrev pub ByOverride : (Part → ℕ → Type 0) → FileView → Type 0
ByOverride row f =
    row PermittedCaps cap_dac_override × IdIn f.owner (row MappedUids) × IdIn f.group (row MappedGids)
    × IsTrue (has_bit f 0o111)

-- The file has the set-id bit of the kind: the set-user-ID bit, or the set-group-ID bit with the group execute bit.
abbrev pub has_id_bit : IdKind → FileView → Bool
has_id_bit Users f = has_bit f 0o4000
has_id_bit kinds.Groups f = has_bit f 0o2000 && has_bit f 0o010

-- The file's set-id bit stands for the id: for its owner or its group.
abbrev pub StandsFor : IdKind → FileView → ℕ → Type 0
StandsFor Users f x = IsTrue (has_id_bit Users f) × (f.owner ≡ Some x)
StandsFor kinds.Groups f x = IsTrue (has_id_bit kinds.Groups f) × (f.group ≡ Some x)

-- The file gives the id to a member of the row: one may run it, and its set-id bit can count.
abbrev pub Given : IdKind → Spaces → ℕ → (Part → ℕ → Type 0) → FileView → ℕ → Type 0
Given kind spaces n row f x = CanRun row f × SetIdCan spaces n row f × StandsFor kind f x

-- The file of the table is a program, and gives the id.
abbrev pub IdGiven : IdKind → FileTable → Spaces → ℕ → (Part → ℕ → Type 0) → ℕ → ℕ → Type 0
IdGiven kind files spaces n row k x = IsTrue (is_program files k) × Given kind spaces n row (view files k) x

-- A program gives the id.
abbrev pub GivenByFile : IdKind → FileTable → Spaces → ℕ → (Part → ℕ → Type 0) → ℕ → Type 0
GivenByFile kind files spaces n row x = (k : ℕ) × IdGiven kind files spaces n row k x

-- The file of the table is a program that a member of the row may run, and its attribute can take effect.
abbrev pub AttributeCan : FileTable → Spaces → (Row → Part → ℕ → Type 0) → Row → ℕ → Type 0
AttributeCan files spaces bounds row k =
    IsTrue (is_program files k) × CanRun (bounds row) (view files k) × TakesCan spaces bounds row (view files k)

-- So it can, and its sets can bring the capability.
abbrev pub CapGiven : FileTable → Spaces → (Row → Part → ℕ → Type 0) → Row → ℕ → ℕ → Type 0
CapGiven files spaces bounds row k x =
    AttributeCan files spaces bounds row k × FileGives (bounds row) (view files k) x
