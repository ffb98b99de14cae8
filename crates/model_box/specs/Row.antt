-- Rows: what the members that stand in one space can hold, part by part. Bounds say of each row, part and number whether
-- it is in.
use Rattle.std.specs.Prelude.{◌≡◌, ℕ, ◌+◌, ◌*◌, ◌/◌, ◌%◌, ◌==◌, false, IsTrue, if◌then◌else◌}
use Rattle.std.specs.List.{list_any}
use Rattle.cm_base.specs.CapSet.{holds}
use Rattle.model_cred.specs.Credential.{Credential, is_one_of_three}
use Rattle.model_rules.specs.Securebits.{has_flag, lock_of, noroot}

-- The parts of a row. Ids are those that the initial space sees. `Uids` bounds the real, effective and saved user ids,
-- `EffectiveUids` the effective one, `FsUids` the fs one; the group ids alike; `Groups` the supplementary groups.
-- `MappedUids` and `MappedGids` bound the ids that the space maps, now or later. Then three sets of capabilities. The last
-- three are flags, of which 0 is in where the flag is raised: a member may lack no_new_privs; SECBIT_NOROOT may be
-- clear; its lock may be clear.
pub data Part : Type 0 where
  Uids : Part
  EffectiveUids : Part
  FsUids : Part
  Gids : Part
  EffectiveGids : Part
  FsGids : Part
  Groups : Part
  MappedUids : Part
  MappedGids : Part
  PermittedCaps : Part
  InheritableCaps : Part
  BoundingCaps : Part
  NewPrivs : Part
  RootCounts : Part
  LockClear : Part

-- A standing space, one of the state at the query, has two rows: one for members in the space itself, and a fresh one for
-- members in later spaces, of which it is the nearest standing ancestor.
pub data Row : Type 0 where
  Standing : ℕ → Row
  Fresh : ℕ → Row

-- the standing space that a row belongs to
abbrev pub space_under : Row → ℕ
space_under (Standing n) = n
space_under (Fresh n) = n

-- rows by number: space n has row 2n, and row 2n + 1 as its fresh one
abbrev pub row_number : Row → ℕ
row_number (Standing n) = 2 * n
row_number (Fresh n) = 2 * n + 1

-- the row of that number
abbrev pub row_at : ℕ → Row
row_at y = if y % 2 == 0 then Standing (y / 2) else Fresh (y / 2)

-- What a credential puts into the row of its space.
abbrev pub CredHas : Credential → Part → ℕ → Type 0
CredHas c Uids x = IsTrue (is_one_of_three c.uid x)
CredHas c EffectiveUids x = x ≡ c.uid.effective
CredHas c FsUids x = x ≡ c.uid.fs
CredHas c Gids x = IsTrue (is_one_of_three c.gid x)
CredHas c EffectiveGids x = x ≡ c.gid.effective
CredHas c FsGids x = x ≡ c.gid.fs
CredHas c Groups x = IsTrue (list_any (λ group. group == x) c.groups)
CredHas c MappedUids x = ⊥
CredHas c MappedGids x = ⊥
CredHas c PermittedCaps x = IsTrue (holds c.permitted x)
CredHas c InheritableCaps x = IsTrue (holds c.inheritable x)
CredHas c BoundingCaps x = IsTrue (holds c.bounding x)
CredHas c NewPrivs x = (x ≡ 0) × (c.no_new_privs ≡ false)
CredHas c RootCounts x = (x ≡ 0) × (has_flag c noroot ≡ false)
CredHas c LockClear x = (x ≡ 0) × (has_flag c (lock_of noroot) ≡ false)

-- each number that the one bounds have, the other have
abbrev pub IsWithin : (Row → Part → ℕ → Type 0) → (Row → Part → ℕ → Type 0) → Type 0
IsWithin bounds wider = (row : Row) (part : Part) (x : ℕ) → bounds row part x → wider row part x

-- the row has members
abbrev pub HasMembers : (Part → ℕ → Type 0) → Type 0
HasMembers row = (x : ℕ) × row EffectiveUids x
