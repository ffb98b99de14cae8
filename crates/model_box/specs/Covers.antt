-- Bounds that cover the members of a family in a state.
use Rattle.std.specs.Prelude.{◌≡◌, ℕ, ◌<◌, ◌≤◌, true, IsTrue, length, List, Some, All}
use Rattle.cm_filter.specs.Filters.{Filter, excludes}
use Rattle.cm_filter.specs.declared.kind.CallKind.{CallKind}
use Rattle.model_cred.specs.Credential.{Included}
use Rattle.model_cred.specs.IdMap.{Extent, extents_of, is_outside}
use Rattle.model_cred.specs.Process.{Process, State, process_at}
use Rattle.model_cred.specs.Space.{Space, Spaces, IsTree, space_of}
use Rattle.model_run.specs.Later.{is_member}
use Rattle.model_run.specs.Own.{shared_filter}
use Rattle.model_box.specs.Row.{Part, EffectiveUids, MappedUids, MappedGids, Row, Standing, Fresh, CredHas}
use Rattle.model_box.specs.Spread.{Brings}

-- The row that a space has, the first so many being the standing ones: a standing space its own, a later one the fresh
-- row of the nearest standing space above it.
pub data RowOf (standing : ℕ) (spaces : Spaces) : ℕ → Row → Type 0 where
  own : (n : ℕ) → n < standing → RowOf standing spaces n (Standing n)
  child : (n p a : ℕ) → standing ≤ n → (space_of spaces n).parent ≡ Some p → RowOf standing spaces p (Standing a)
      → RowOf standing spaces n (Fresh a)
  deeper : (n p a : ℕ) → standing ≤ n → (space_of spaces n).parent ≡ Some p → RowOf standing spaces p (Fresh a)
      → RowOf standing spaces n (Fresh a)

-- What stays of a standing space: its parent, its owner, the maps that are written, and the word "deny".
pub record Stays (old new : Space) : Type 0 where
  pub parent : new.parent ≡ old.parent
  pub owner : new.owner ≡ old.owner
  pub uids : (map : List Extent) → old.uids ≡ Some map → new.uids ≡ Some map
  pub gids : (map : List Extent) → old.gids ≡ Some map → new.gids ≡ Some map
  pub deny : old.deny ≡ true → new.deny ≡ true

-- The outside ids of a space's two maps are in the row.
pub record MapsIn (space : Space) (row : Part → ℕ → Type 0) : Type 0 where
  pub uids : (x : ℕ) → IsTrue (is_outside (extents_of space.uids) x) → row MappedUids x
  pub gids : (x : ℕ) → IsTrue (is_outside (extents_of space.gids) x) → row MappedGids x

-- What a member has is in the row of its space.
abbrev pub MembersIn : ℕ → State → List ℕ → (Row → Part → ℕ → Type 0) → Type 0
MembersIn standing s members bounds =
    (pid : ℕ) (p : Process) (row : Row) → IsTrue (is_member members pid) → process_at s.processes pid ≡ Some p
    → RowOf standing s.spaces p.space row → (part : Part) (x : ℕ) → CredHas p.cred part x → bounds row part x

-- The standing spaces stay, and a later space has the word "deny" where the standing space of its row had it.
pub record SpacesStay (old new : Spaces) : Type 0 where
  pub grown : length old ≤ length new
  pub stay : (n : ℕ) → n < length old → Stays (space_of old n) (space_of new n)
  pub deny : (n a : ℕ) → RowOf (length old) new n (Fresh a) → (space_of old a).deny ≡ true
      → (space_of new n).deny ≡ true

-- The maps of each space are in its row.
abbrev pub MapsAreIn : Spaces → Spaces → (Row → Part → ℕ → Type 0) → Type 0
MapsAreIn old new bounds = (n : ℕ) (row : Row) → RowOf (length old) new n row → MapsIn (space_of new n) (bounds row)

-- A later space has a parent, which is earlier.
abbrev pub ParentsEarlier : Spaces → Spaces → Type 0
ParentsEarlier old new =
    (n : ℕ) → length old ≤ n → n < length new → (p : ℕ) × ((space_of new n).parent ≡ Some p) × (p < n)

-- The owner of a later space is an effective user id in its parent's row.
abbrev pub OwnersIn : Spaces → Spaces → (Row → Part → ℕ → Type 0) → Type 0
OwnersIn old new bounds =
    (n p : ℕ) (row : Row) → length old ≤ n → (space_of new n).parent ≡ Some p → RowOf (length old) new p row
    → bounds row EffectiveUids (space_of new n).owner

-- The row of a later space holds what the members of the standing space above it bring.
abbrev pub FreshFilled : Spaces → Spaces → (Row → Part → ℕ → Type 0) → Type 0
FreshFilled old new bounds =
    (n a : ℕ) → RowOf (length old) new n (Fresh a) → (part : Part) (x : ℕ) → Brings (bounds (Standing a)) part x
    → bounds (Fresh a) part x

-- Each member has a filter that excludes all that this one does.
abbrev pub FiltersExclude : Filter → State → List ℕ → Type 0
FiltersExclude excluded s members =
    (pid : ℕ) (p : Process) → IsTrue (is_member members pid) → process_at s.processes pid ≡ Some p
    → (kind : CallKind) → IsTrue (excludes excluded kind) → IsTrue (excludes p.filter kind)

-- The bounds cover the members in the second state, the first state and the first members being those of the query.
pub record Covers (old : State) (members_old : List ℕ) (new : State) (members : List ℕ) (bounds : Row → Part → ℕ → Type 0) : Type 0 where
  pub members_in : MembersIn (length old.spaces) new members bounds
  pub spaces_stay : SpacesStay old.spaces new.spaces
  pub maps_in : MapsAreIn old.spaces new.spaces bounds
  pub parents : ParentsEarlier old.spaces new.spaces
  pub owners : OwnersIn old.spaces new.spaces bounds
  pub filled : FreshFilled old.spaces new.spaces bounds
  pub filters : FiltersExclude (shared_filter old members_old) new members

-- What the laws ask of the state of the query: the spaces form a tree, each process is in one that stands, and the sets
-- of each credential are within one another.
pub record StateFits (s : State) : Type 0 where
  pub tree : IsTree s.spaces
  pub stands : All (λ p. p.space < length s.spaces) s.processes
  pub included : All (λ p. Included p.cred) s.processes

-- The parent of each space is an earlier one.
abbrev pub Earlier : Spaces → Type 0
Earlier spaces = (n p : ℕ) → (space_of spaces n).parent ≡ Some p → p < n

-- What later runs start from, which is less: a law that asks for less says more.
pub record CanStart (s : State) : Type 0 where
  pub earlier : Earlier s.spaces
  pub stands : All (λ p. p.space < length s.spaces) s.processes
  pub included : All (λ p. Included p.cred) s.processes
