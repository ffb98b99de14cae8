-- Ids of one kind, of users or of groups: the parts of a row that hold them, and what its members gain of them.
use Rattle.std.specs.Prelude.{ℕ, List}
use Rattle.cm_box_rows.specs.declared.kind.IdKind.{IdKind}
use Rattle.cm_box_rows.specs.declared.kind.IdKind.TheVariants.{Users}
use Rattle.cm_box_rows.specs.declared.kind.IdKind.TheVariants as kinds
use Rattle.model_cred.specs.Intervals.{Interval}
use Rattle.model_rules.specs.Caps.{cap_setuid, cap_setgid}
use Rattle.model_box.specs.Bounds.{BoxRow, no_row}
use Rattle.model_box.specs.Gains.{Settable, SpreadsUid, SpreadsGid, GainsFsUid, GainsFsGid}
use Rattle.model_box.specs.Row.{Part, Uids, EffectiveUids, FsUids, Gids, EffectiveGids, FsGids, MappedUids, MappedGids}
use Rattle.model_box.specs.Row.{PermittedCaps}

-- the part of the real, effective and saved ids together
abbrev pub three : IdKind → Part
three Users = Uids
three kinds.Groups = Gids

-- the part of the effective ids
abbrev pub effective : IdKind → Part
effective Users = EffectiveUids
effective kinds.Groups = EffectiveGids

-- the part of the fs ids
abbrev pub fs : IdKind → Part
fs Users = FsUids
fs kinds.Groups = FsGids

-- the part of the mapped ids
abbrev pub mapped : IdKind → Part
mapped Users = MappedUids
mapped kinds.Groups = MappedGids

-- the capability to set them
abbrev pub privilege : IdKind → ℕ
privilege Users = cap_setuid
privilege kinds.Groups = cap_setgid

-- the ids that a member of the row can set
abbrev pub SettableId : IdKind → (Part → ℕ → Type 0) → ℕ → Type 0
SettableId kind row = Settable (row (three kind)) (row (mapped kind)) (row PermittedCaps (privilege kind))

-- New ids come to the effective ones, and all of these to the other ones.
abbrev pub SpreadsId : IdKind → (Part → ℕ → Type 0) → (ℕ → Type 0) → Part → ℕ → Type 0
SpreadsId Users = SpreadsUid
SpreadsId kinds.Groups = SpreadsGid

-- Ids that can be set come to the fs ids alone.
abbrev pub GainsFsId : IdKind → (Part → ℕ → Type 0) → Part → ℕ → Type 0
GainsFsId Users = GainsFsUid
GainsFsId kinds.Groups = GainsFsGid

-- the row that holds ids of one kind alone
abbrev pub id_row : IdKind → List Interval → List Interval → List Interval → BoxRow
id_row Users ids now last = record no_row { uids = ids; effective_uids = now; fs_uids = last }
id_row kinds.Groups ids now last = record no_row { gids = ids; effective_gids = now; fs_gids = last }
