-- What a member can gain for its own row by the calls that set ids, groups, capabilities and securebits.
use Rattle.std.specs.Prelude.{◌≡◌, ◌⊎◌, ℕ}
use Rattle.model_rules.specs.Caps.{cap_setuid, cap_setgid, cap_setpcap}
use Rattle.model_box.specs.Row.{Part, Uids, EffectiveUids, FsUids, Gids, EffectiveGids, FsGids, Groups, MappedUids}
use Rattle.model_box.specs.Row.{MappedGids, PermittedCaps, InheritableCaps, BoundingCaps, RootCounts, LockClear}

-- The ids that a call can set: mapped ones that are among the old ones, and any mapped one with the capability for it.
abbrev pub Settable : (ℕ → Type 0) → (ℕ → Type 0) → Type 0 → ℕ → Type 0
Settable Old Mapped Privileged x = (Old x × Mapped x) ⊎ (Privileged × Mapped x)

-- the user ids that a member of the row can set
abbrev pub SettableUid : (Part → ℕ → Type 0) → ℕ → Type 0
SettableUid row x = Settable (row Uids) (row MappedUids) (row PermittedCaps cap_setuid) x

-- the group ids that a member of the row can set
abbrev pub SettableGid : (Part → ℕ → Type 0) → ℕ → Type 0
SettableGid row x = Settable (row Gids) (row MappedGids) (row PermittedCaps cap_setgid) x

-- New user ids come to the effective ones; and each effective one, these included, can become the real, the saved and the
-- fs id.
abbrev pub SpreadsUid : (Part → ℕ → Type 0) → (ℕ → Type 0) → Part → ℕ → Type 0
SpreadsUid row New EffectiveUids x = New x
SpreadsUid row New Uids x = row EffectiveUids x ⊎ New x
SpreadsUid row New FsUids x = row EffectiveUids x ⊎ New x
SpreadsUid row New _ x = ⊥

-- the same of group ids
abbrev pub SpreadsGid : (Part → ℕ → Type 0) → (ℕ → Type 0) → Part → ℕ → Type 0
SpreadsGid row New EffectiveGids x = New x
SpreadsGid row New Gids x = row EffectiveGids x ⊎ New x
SpreadsGid row New FsGids x = row EffectiveGids x ⊎ New x
SpreadsGid row New _ x = ⊥

-- By setfsuid: each id that can be set becomes the fs id alone.
abbrev pub GainsFsUid : (Part → ℕ → Type 0) → Part → ℕ → Type 0
GainsFsUid row FsUids x = SettableUid row x
GainsFsUid row _ x = ⊥

-- the same by setfsgid
abbrev pub GainsFsGid : (Part → ℕ → Type 0) → Part → ℕ → Type 0
GainsFsGid row FsGids x = SettableGid row x
GainsFsGid row _ x = ⊥

-- By setgroups, with CAP_SETGID: any mapped group.
abbrev pub GainsGroups : (Part → ℕ → Type 0) → Part → ℕ → Type 0
GainsGroups row Groups x = row PermittedCaps cap_setgid × row MappedGids x
GainsGroups row _ x = ⊥

-- By capset: what is permitted and bounding can become inheritable, and with CAP_SETPCAP all that is bounding.
abbrev pub GainsInheritable : (Part → ℕ → Type 0) → Part → ℕ → Type 0
GainsInheritable row InheritableCaps x = (row PermittedCaps x × row BoundingCaps x) ⊎ (row PermittedCaps cap_setpcap × row BoundingCaps x)
GainsInheritable row _ x = ⊥

-- By PR_SET_SECUREBITS, with CAP_SETPCAP where the lock may be clear: SECBIT_NOROOT can be cleared.
abbrev pub GainsRoot : (Part → ℕ → Type 0) → Part → ℕ → Type 0
GainsRoot row RootCounts x = (x ≡ 0) × row PermittedCaps cap_setpcap × row LockClear 0
GainsRoot row _ x = ⊥
