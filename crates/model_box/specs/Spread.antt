-- What comes to a row from another: by making spaces, by joining them, and by writing their maps.
use Rattle.std.specs.Prelude.{◌≡◌, ◌⊎◌, ℕ, nat_lt, IsTrue, Some}
use Rattle.cm_base.specs.CapSet.{holds, full}
use Rattle.model_cred.specs.Space.{Spaces, is_at_or_above, level, space_of}
use Rattle.model_rules.specs.Caps.{cap_setuid, cap_setgid, cap_sys_admin}
use Rattle.model_rules.specs.Namespaces.{deepest}
use Rattle.model_box.specs.Row.{Part, EffectiveUids, EffectiveGids, MappedUids, MappedGids, PermittedCaps}
use Rattle.model_box.specs.Row.{InheritableCaps, BoundingCaps, RootCounts, LockClear, Row, Standing, Fresh, HasMembers}

-- What the members of a row bring with them as newcomers to a space: their ids and groups, and whether they may lack
-- no_new_privs; full permitted and bounding sets; no securebits.
abbrev pub Brings : (Part → ℕ → Type 0) → Part → ℕ → Type 0
Brings row MappedUids x = ⊥
Brings row MappedGids x = ⊥
Brings row PermittedCaps x = IsTrue (holds full x)
Brings row InheritableCaps x = ⊥
Brings row BoundingCaps x = IsTrue (holds full x)
Brings row RootCounts x = x ≡ 0
Brings row LockClear x = x ≡ 0
Brings row part x = row part x

-- the two sets have a number in common
abbrev pub Meet : (ℕ → Type 0) → (ℕ → Type 0) → Type 0
Meet One Other = (x : ℕ) × One x × Other x

-- A member that stands in the space can make a space: the depth allows it, and an effective user id and an effective
-- group id can be mapped.
abbrev pub CanMake : Spaces → (Row → Part → ℕ → Type 0) → ℕ → Type 0
CanMake spaces bounds n =
    IsTrue (nat_lt (level spaces n) deepest)
    × Meet (bounds (Standing n) EffectiveUids) (bounds (Standing n) MappedUids)
    × Meet (bounds (Standing n) EffectiveGids) (bounds (Standing n) MappedGids)

-- The third space is on the chain from the second to the initial one, and its parent is the first: so the first is above
-- the second.
abbrev pub IsNext : Spaces → ℕ → ℕ → ℕ → Type 0
IsNext spaces a n m = IsTrue (is_at_or_above spaces m n) × ((space_of spaces m).parent ≡ Some a)

-- A member in a standing space above the target can have CAP_SYS_ADMIN over it: by its own set, or because it owns the
-- space on the chain whose parent is its own.
abbrev pub CanJoin : Spaces → (Row → Part → ℕ → Type 0) → ℕ → ℕ → Type 0
CanJoin spaces bounds a n =
    (m : ℕ) × IsNext spaces a n m × HasMembers (bounds (Standing a))
    × (bounds (Standing a) PermittedCaps cap_sys_admin ⊎ bounds (Standing a) EffectiveUids (space_of spaces m).owner)

-- the user ids that can come into the map of a standing space from its parent
abbrev pub NewUid : (Row → Part → ℕ → Type 0) → ℕ → ℕ → ℕ → ℕ → Type 0
NewUid bounds n q owner x =
    bounds (Standing q) MappedUids x
    × (bounds (Standing q) PermittedCaps cap_setuid
    ⊎ ((x ≡ owner)
    × (bounds (Standing q) EffectiveUids owner
    ⊎ (bounds (Standing n) EffectiveUids owner × bounds (Standing n) PermittedCaps cap_setuid))))

-- the group ids alike
abbrev pub NewGid : (Row → Part → ℕ → Type 0) → ℕ → ℕ → ℕ → ℕ → Type 0
NewGid bounds n q owner x =
    bounds (Standing q) MappedGids x
    × (bounds (Standing q) PermittedCaps cap_setgid
    ⊎ (bounds (Standing q) EffectiveUids owner × bounds (Standing q) EffectiveGids x)
    ⊎ (bounds (Standing n) EffectiveUids owner × bounds (Standing n) PermittedCaps cap_setgid × bounds (Standing n) EffectiveGids x))

-- the user ids that can come into the maps of the later spaces below a standing one
abbrev pub FreshUid : (Row → Part → ℕ → Type 0) → ℕ → ℕ → Type 0
FreshUid bounds n x =
    bounds (Standing n) MappedUids x × (bounds (Standing n) EffectiveUids x ⊎ bounds (Standing n) PermittedCaps cap_setuid)

-- the group ids alike
abbrev pub FreshGid : (Row → Part → ℕ → Type 0) → ℕ → ℕ → Type 0
FreshGid bounds n x =
    bounds (Standing n) MappedGids x
    × (bounds (Standing n) EffectiveGids x ⊎ bounds (Fresh n) EffectiveGids x ⊎ bounds (Standing n) PermittedCaps cap_setgid)
