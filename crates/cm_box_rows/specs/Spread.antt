-- What comes to a row from another, with the rows given by themselves.
use Rattle.std.specs.Prelude.{◌≡◌, ◌⊎◌, ℕ, nat_lt, IsTrue}
use Rattle.cm_base.specs.CapSet.{holds, full}
use Rattle.cm_box_rows.specs.declared.kind.IdKind.{IdKind}
use Rattle.cm_box_rows.specs.declared.kind.IdKind.TheVariants.{Users}
use Rattle.cm_box_rows.specs.declared.kind.IdKind.TheVariants as kinds
use Rattle.model_cred.specs.Space.{Space, Spaces, level, space_of}
use Rattle.model_rules.specs.Caps.{cap_setuid, cap_setgid, cap_sys_admin}
use Rattle.model_rules.specs.Namespaces.{deepest}
use Rattle.model_box.specs.Row.{Part, Uids, EffectiveUids, FsUids, Gids, EffectiveGids, FsGids, Groups, MappedUids}
use Rattle.model_box.specs.Row.{MappedGids, PermittedCaps, BoundingCaps, RootCounts, LockClear, HasMembers}
use Rattle.model_box.specs.Row.{Row, Standing}
use Rattle.model_box.specs.Spread.{Brings, IsNext, Meet}
use Rattle.cm_box_rows.specs.Rows.{HoldsAll}

-- The row holds the ids of another but the mapped ones.
pub record IdsHeld (from row : Part → ℕ → Type 0) : Type 0 where
  pub uids : (x : ℕ) → from Uids x → row Uids x
  pub effective_uids : (x : ℕ) → from EffectiveUids x → row EffectiveUids x
  pub fs_uids : (x : ℕ) → from FsUids x → row FsUids x
  pub gids : (x : ℕ) → from Gids x → row Gids x
  pub effective_gids : (x : ℕ) → from EffectiveGids x → row EffectiveGids x
  pub fs_gids : (x : ℕ) → from FsGids x → row FsGids x
  pub groups : (x : ℕ) → from Groups x → row Groups x

-- The row has full permitted and bounding sets, and no securebits.
pub record FullHeld (row : Part → ℕ → Type 0) : Type 0 where
  pub permitted : (x : ℕ) → IsTrue (holds full x) → row PermittedCaps x
  pub bounding : (x : ℕ) → IsTrue (holds full x) → row BoundingCaps x
  pub root_counts : row RootCounts 0
  pub lock_clear : row LockClear 0

-- A member that stands in the space, of which the row is given, can make a space.
abbrev pub CanMakeIn : Spaces → ℕ → (Part → ℕ → Type 0) → Type 0
CanMakeIn spaces n row =
    IsTrue (nat_lt (level spaces n) deepest)
    × Meet (row EffectiveUids) (row MappedUids) × Meet (row EffectiveGids) (row MappedGids)

-- what the makers of later spaces bring, if there can be any
abbrev pub MadeIn : Spaces → ℕ → (Part → ℕ → Type 0) → Part → ℕ → Type 0
MadeIn spaces n row part x = CanMakeIn spaces n row × Brings row part x

-- A member of the row can join the space, of which it stands in the parent, and those below it.
abbrev pub CanJoinBy : (Part → ℕ → Type 0) → Space → Type 0
CanJoinBy parent child = HasMembers parent × (parent PermittedCaps cap_sys_admin ⊎ parent EffectiveUids child.owner)

-- The row holds what comes by all who can join the space from above.
abbrev pub JoinsHeld : Spaces → (Row → Part → ℕ → Type 0) → (Part → ℕ → Type 0) → ℕ → Type 0
JoinsHeld spaces bounds row n =
    (a m : ℕ) → IsNext spaces a n m → CanJoinBy (bounds (Standing a)) (space_of spaces m)
    → HoldsAll row (Brings (bounds (Standing a)))

-- the user ids that can come into the map of a standing space from its parent
abbrev pub NewUidBy : (Part → ℕ → Type 0) → (Part → ℕ → Type 0) → ℕ → ℕ → Type 0
NewUidBy row parent owner x =
    parent MappedUids x
    × (parent PermittedCaps cap_setuid
    ⊎ ((x ≡ owner) × (parent EffectiveUids owner ⊎ (row EffectiveUids owner × row PermittedCaps cap_setuid))))

-- the group ids alike
abbrev pub NewGidBy : (Part → ℕ → Type 0) → (Part → ℕ → Type 0) → ℕ → ℕ → Type 0
NewGidBy row parent owner x =
    parent MappedGids x
    × (parent PermittedCaps cap_setgid
    ⊎ (parent EffectiveUids owner × parent EffectiveGids x)
    ⊎ (row EffectiveUids owner × row PermittedCaps cap_setgid × row EffectiveGids x))

-- the user ids that can come into the maps of the later spaces below a standing one
abbrev pub FreshUidBy : (Part → ℕ → Type 0) → ℕ → Type 0
FreshUidBy row x = row MappedUids x × (row EffectiveUids x ⊎ row PermittedCaps cap_setuid)

-- the group ids alike
abbrev pub FreshGidBy : (Part → ℕ → Type 0) → (Part → ℕ → Type 0) → ℕ → Type 0
FreshGidBy row fresh x = row MappedGids x × (row EffectiveGids x ⊎ fresh EffectiveGids x ⊎ row PermittedCaps cap_setgid)

-- the ids of one kind that can come into the map of a standing space from its parent
abbrev pub NewIdBy : IdKind → (Part → ℕ → Type 0) → (Part → ℕ → Type 0) → ℕ → ℕ → Type 0
NewIdBy Users = NewUidBy
NewIdBy kinds.Groups = NewGidBy

-- those that can come into the maps of the later spaces below it
abbrev pub FreshIdBy : IdKind → (Part → ℕ → Type 0) → (Part → ℕ → Type 0) → ℕ → Type 0
FreshIdBy Users row fresh = FreshUidBy row
FreshIdBy kinds.Groups row fresh = FreshGidBy row fresh

-- what comes with those who can join the space from its parent
abbrev pub JoinedBy : (Part → ℕ → Type 0) → Space → Part → ℕ → Type 0
JoinedBy parent child part x = CanJoinBy parent child × Brings parent part x

-- what comes by all who can join the space from above
abbrev pub ByJoiningTo : Spaces → (Row → Part → ℕ → Type 0) → ℕ → Part → ℕ → Type 0
ByJoiningTo spaces bounds n part x =
    (a : ℕ) × (m : ℕ) × IsNext spaces a n m × CanJoinBy (bounds (Standing a)) (space_of spaces m)
    × Brings (bounds (Standing a)) part x
