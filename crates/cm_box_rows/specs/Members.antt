-- What a row holds of a member, part by part.
use Rattle.std.specs.Prelude.{◌≡◌, ℕ, Bool, false, IsTrue, List, Some}
use Rattle.model_cred.specs.Credential.{Credential, FourIds}
use Rattle.model_cred.specs.IdMap.{Extent, is_outside}
use Rattle.model_cred.specs.Process.{Process, State, process_at}
use Rattle.cm_base.specs.CapSet.{holds}
use Rattle.model_rules.specs.Securebits.{has_flag, lock_of, noroot}
use Rattle.model_box.specs.Row.{Part, PermittedCaps, InheritableCaps, BoundingCaps, NewPrivs, RootCounts, LockClear}
use Rattle.model_box.specs.Row.{CredHas, Row}
use Rattle.model_box.specs.Row.{IsWithin}
use Rattle.model_box.specs.Covers.{Covers}
use Rattle.model_box.specs.Laws.{tested}
pub use Rattle.model_box.specs.Firsts.{IsFirstLacking}
use Rattle.cm_box_rows.specs.Rows.{HoldsAll}

-- The sets hold the four ids of a process.
pub record FourHeld (Three Effective Fs : ℕ → Type 0) (ids : FourIds) : Type 0 where
  pub real : Three ids.real
  pub saved : Three ids.saved
  pub three : Three ids.effective
  pub effective : Effective ids.effective
  pub fs : Fs ids.fs

-- The row holds the three sets of a process.
pub record SetsHeld (row : Part → ℕ → Type 0) (c : Credential) : Type 0 where
  pub permitted : (x : ℕ) → IsTrue (holds c.permitted x) → row PermittedCaps x
  pub inheritable : (x : ℕ) → IsTrue (holds c.inheritable x) → row InheritableCaps x
  pub bounding : (x : ℕ) → IsTrue (holds c.bounding x) → row BoundingCaps x

-- The row holds its flags.
pub record FlagsHeld (row : Part → ℕ → Type 0) (c : Credential) : Type 0 where
  pub new_privs : c.no_new_privs ≡ false → row NewPrivs 0
  pub root : has_flag c noroot ≡ false → row RootCounts 0
  pub lock : has_flag c (lock_of noroot) ≡ false → row LockClear 0

-- The row holds what one member has, if it is alive and stands in the space.
abbrev pub MemberHeld : State → ℕ → (Part → ℕ → Type 0) → ℕ → Type 0
MemberHeld s n row pid =
    (p : Process) → process_at s.processes pid ≡ Some p → p.space ≡ n → HoldsAll row (CredHas p.cred)

-- The set holds the outside ids of the map.
abbrev pub MapHeld : List Extent → (ℕ → Type 0) → Type 0
MapHeld map Set = (x : ℕ) → IsTrue (is_outside map x) → Set x

-- what one member gives to the row of the space, if it is alive and stands there
abbrev pub MemberGives : State → ℕ → ℕ → Part → ℕ → Type 0
MemberGives s n pid part x =
    (p : Process) × (process_at s.processes pid ≡ Some p) × (p.space ≡ n) × CredHas p.cred part x

-- The bounds cover the members now, and are the least that do: they are within all others that a test gives.
pub record IsLeastCover (s : State) (members : List ℕ) (bounds : Row → Part → ℕ → Type 0) : Type 0 where
  pub covers : Covers s members s members bounds
  pub least : (other : ℕ → Part → ℕ → Bool) → Covers s members s members (tested other) → IsWithin bounds (tested other)
