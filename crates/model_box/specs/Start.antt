-- The start bounds: what the members have at the query, and the ids that the standing spaces map.
use Rattle.std.specs.Prelude.{◌≡◌, ◌⊎◌, ℕ, IsTrue, List, Some}
use Rattle.model_cred.specs.IdMap.{extents_of, is_outside}
use Rattle.model_cred.specs.Process.{Process, State, process_at}
use Rattle.model_cred.specs.Space.{Space, stands, space_of}
use Rattle.model_run.specs.Later.{is_member}
use Rattle.model_box.specs.Row.{Part, MappedUids, MappedGids, Row, Standing, Fresh, space_under, CredHas}

-- a member that stands in the space has it
abbrev pub MemberHas : State → List ℕ → ℕ → Part → ℕ → Type 0
MemberHas s members n part x =
    (pid : ℕ) × (p : Process) × IsTrue (is_member members pid) × (process_at s.processes pid ≡ Some p) × (p.space ≡ n) × CredHas p.cred part x

-- the space's maps have it among their outside ids
abbrev pub SpaceMaps : Space → Part → ℕ → Type 0
SpaceMaps space MappedUids x = IsTrue (is_outside (extents_of space.uids) x)
SpaceMaps space MappedGids x = IsTrue (is_outside (extents_of space.gids) x)
SpaceMaps space _ x = ⊥

-- What the start bounds hold; no member is in a later space yet.
abbrev pub StartHas : State → List ℕ → Row → Part → ℕ → Type 0
StartHas s members (Standing n) part x = MemberHas s members n part x ⊎ SpaceMaps (space_of s.spaces n) part x
StartHas s members (Fresh n) part x = ⊥

-- the row holds what the start bounds hold there
abbrev pub HoldsStartAt : State → List ℕ → (Row → Part → ℕ → Type 0) → Row → Type 0
HoldsStartAt s members bounds row = (part : Part) (x : ℕ) → StartHas s members row part x → bounds row part x

-- The bounds hold the start bounds: each row of a standing space does.
abbrev pub HoldsStart : State → List ℕ → (Row → Part → ℕ → Type 0) → Type 0
HoldsStart s members bounds =
    (row : Row) → IsTrue (stands s.spaces (space_under row)) → HoldsStartAt s members bounds row
