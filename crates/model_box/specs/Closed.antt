-- What each closure rule adds to a row of bounds, and closed bounds.
use Rattle.std.specs.Prelude.{◌≡◌, ◌⊎◌, ℕ, ◌||◌, Bool, not, IsTrue, is_none, Some}
use Rattle.cm_filter.specs.declared.kind.CallKind.{CallKind}
use Rattle.cm_filter.specs.declared.kind.CallKind.TheVariants as kind
use Rattle.model_cred.specs.Files.{FileTable}
use Rattle.model_cred.specs.Space.{Spaces, stands, space_of}
use Rattle.model_rules.specs.FileView.{view, has_bit}
use Rattle.model_box.specs.Row.{Part, Uids, MappedUids, MappedGids, PermittedCaps}
use Rattle.model_box.specs.Row.{InheritableCaps, BoundingCaps, NewPrivs, RootCounts, Row, Standing, Fresh, space_under}
use Rattle.model_box.specs.Row.{HasMembers}
use Rattle.model_box.specs.Rule.{Rule, SetUid, SetFsUid, SetGid, SetFsGid, SetGroups, CapSet, SecureBits, ExecUid}
use Rattle.model_box.specs.Rule.{ExecGid, ExecCaps, ExecRoot, Create, Join, Maps}
use Rattle.model_box.specs.Gains.{SettableUid, SettableGid, SpreadsUid, SpreadsGid, GainsFsUid, GainsFsGid, GainsGroups, GainsInheritable, GainsRoot}
use Rattle.model_box.specs.Files.{CanRun, SetIdCan, TakesCan, ZeroIn, FileGives, is_program}
use Rattle.model_box.specs.Spread.{Brings, Meet, CanMake, CanJoin, NewUid, NewGid, FreshUid, FreshGid}

-- the owners of the programs whose set-user-ID bit can count for a member of the row
abbrev pub OwnerByFile : FileTable → Spaces → ℕ → (Part → ℕ → Type 0) → ℕ → Type 0
OwnerByFile files spaces n row x =
    (k : ℕ) × IsTrue (is_program files k) × CanRun row (view files k) × SetIdCan spaces n row (view files k)
    × IsTrue (has_bit (view files k) 0o4000) × ((view files k).owner ≡ Some x)

-- the groups of those whose set-group-ID bit can
abbrev pub GroupByFile : FileTable → Spaces → ℕ → (Part → ℕ → Type 0) → ℕ → Type 0
GroupByFile files spaces n row x =
    (k : ℕ) × IsTrue (is_program files k) × CanRun row (view files k) × SetIdCan spaces n row (view files k)
    × IsTrue (has_bit (view files k) 0o2000) × IsTrue (has_bit (view files k) 0o010) × ((view files k).group ≡ Some x)

-- the capabilities that the attributes of programs can bring
abbrev pub CapByFile : FileTable → Spaces → (Row → Part → ℕ → Type 0) → Row → ℕ → Type 0
CapByFile files spaces bounds row x =
    (k : ℕ) × IsTrue (is_program files k) × CanRun (bounds row) (view files k) × TakesCan spaces bounds row (view files k)
    × FileGives (bounds row) (view files k) x

-- The capabilities that a program gives to root as root, where one of the three user ids can be inside 0.
abbrev pub CapByRoot : Spaces → (Row → Part → ℕ → Type 0) → Row → ℕ → Type 0
CapByRoot spaces bounds row x =
    bounds row RootCounts 0 × bounds row NewPrivs 0 × Meet (bounds row Uids) (ZeroIn spaces bounds row)
    × (bounds row InheritableCaps x ⊎ bounds row BoundingCaps x)

-- capabilities alone
abbrev pub OnlyCaps : (ℕ → Type 0) → Part → ℕ → Type 0
OnlyCaps Set PermittedCaps x = Set x
OnlyCaps Set _ x = ⊥

-- What comes to a standing row from members above it that can join the space.
abbrev pub ByJoining : Spaces → (Row → Part → ℕ → Type 0) → ℕ → Part → ℕ → Type 0
ByJoining spaces bounds n part x = (a : ℕ) × CanJoin spaces bounds a n × Brings (bounds (Standing a)) part x

-- what comes to the mapped ids of a row once its maps are written
abbrev pub ByMaps : (CallKind → Bool) → Spaces → (Row → Part → ℕ → Type 0) → Row → Part → ℕ → Type 0
ByMaps permitted spaces bounds (Standing n) MappedUids x =
    IsTrue (permitted kind.WriteUidMap) × IsTrue (is_none (space_of spaces n).uids)
    × ((q : ℕ) × ((space_of spaces n).parent ≡ Some q) × NewUid bounds n q (space_of spaces n).owner x)
ByMaps permitted spaces bounds (Standing n) MappedGids x =
    IsTrue (permitted kind.WriteGidMap) × IsTrue (is_none (space_of spaces n).gids)
    × ((q : ℕ) × ((space_of spaces n).parent ≡ Some q) × NewGid bounds n q (space_of spaces n).owner x)
ByMaps permitted spaces bounds (Fresh n) MappedUids x =
    IsTrue (permitted kind.WriteUidMap) × HasMembers (bounds (Fresh n)) × FreshUid bounds n x
ByMaps permitted spaces bounds (Fresh n) MappedGids x =
    IsTrue (permitted kind.WriteGidMap) × HasMembers (bounds (Fresh n)) × FreshGid bounds n x
ByMaps permitted spaces bounds row _ x = ⊥

-- What a rule adds to a row, for the spaces of the query, and by the kinds of calls that are permitted. A rule adds only
-- where the row has members, but for the last three.
abbrev pub Adds : (CallKind → Bool) → FileTable → Spaces → (Row → Part → ℕ → Type 0) → Rule → Row → Part → ℕ → Type 0
Adds permitted files spaces bounds SetUid row part x =
    IsTrue (permitted kind.SetUid || permitted kind.SetReUid || permitted kind.SetResUid) × HasMembers (bounds row)
    × SpreadsUid (bounds row) (SettableUid (bounds row)) part x
Adds permitted files spaces bounds SetFsUid row part x =
    IsTrue (permitted kind.SetFsUid) × HasMembers (bounds row) × GainsFsUid (bounds row) part x
Adds permitted files spaces bounds SetGid row part x =
    IsTrue (permitted kind.SetGid || permitted kind.SetReGid || permitted kind.SetResGid) × HasMembers (bounds row)
    × SpreadsGid (bounds row) (SettableGid (bounds row)) part x
Adds permitted files spaces bounds SetFsGid row part x =
    IsTrue (permitted kind.SetFsGid) × HasMembers (bounds row) × GainsFsGid (bounds row) part x
Adds permitted files spaces bounds SetGroups row part x =
    IsTrue (permitted kind.SetGroups) × HasMembers (bounds row) × IsTrue (not (space_of spaces (space_under row)).deny)
    × GainsGroups (bounds row) part x
Adds permitted files spaces bounds CapSet row part x =
    IsTrue (permitted kind.CapSet) × HasMembers (bounds row) × GainsInheritable (bounds row) part x
Adds permitted files spaces bounds SecureBits row part x =
    IsTrue (permitted kind.SecureBits) × HasMembers (bounds row) × GainsRoot (bounds row) part x
Adds permitted files spaces bounds ExecUid row part x =
    IsTrue (permitted kind.Exec) × HasMembers (bounds row)
    × SpreadsUid (bounds row) (OwnerByFile files spaces (space_under row) (bounds row)) part x
Adds permitted files spaces bounds ExecGid row part x =
    IsTrue (permitted kind.Exec) × HasMembers (bounds row)
    × SpreadsGid (bounds row) (GroupByFile files spaces (space_under row) (bounds row)) part x
Adds permitted files spaces bounds ExecCaps row part x =
    IsTrue (permitted kind.Exec) × HasMembers (bounds row) × OnlyCaps (CapByFile files spaces bounds row) part x
Adds permitted files spaces bounds ExecRoot row part x =
    IsTrue (permitted kind.Exec) × HasMembers (bounds row) × OnlyCaps (CapByRoot spaces bounds row) part x
Adds permitted files spaces bounds Create (Standing n) part x = ⊥
Adds permitted files spaces bounds Create (Fresh n) part x =
    IsTrue (permitted kind.Unshare || permitted kind.CloneUser) × CanMake spaces bounds n
    × Brings (bounds (Standing n)) part x
Adds permitted files spaces bounds Join (Standing n) part x =
    IsTrue (permitted kind.SetNs) × ByJoining spaces bounds n part x
Adds permitted files spaces bounds Join (Fresh n) part x = ⊥
Adds permitted files spaces bounds Maps row part x = ByMaps permitted spaces bounds row part x

-- the row holds what the rule adds to it
abbrev pub ClosedAt : (CallKind → Bool) → FileTable → Spaces → (Row → Part → ℕ → Type 0) → Rule → Row → Type 0
ClosedAt permitted files spaces bounds rule row =
    (part : Part) (x : ℕ) → Adds permitted files spaces bounds rule row part x → bounds row part x

-- Closed bounds: each row of a standing space holds what each rule adds to it.
abbrev pub Closed : (CallKind → Bool) → FileTable → Spaces → (Row → Part → ℕ → Type 0) → Type 0
Closed permitted files spaces bounds =
    (rule : Rule) (row : Row) → IsTrue (stands spaces (space_under row)) → ClosedAt permitted files spaces bounds rule row
