-- The rules, each told by what it adds where a call is permitted and the row has members; and the first that is open.
use Rattle.std.specs.Prelude.{◌≢◌, ◌↔◌, ◌⊎◌, ℕ, Bool, not, IsTrue}
use Rattle.cm_filter.specs.declared.kind.CallKind.{CallKind}
use Rattle.model_cred.specs.Files.{FileTable}
use Rattle.model_cred.specs.Space.{Spaces, space_of}
use Rattle.model_box.specs.Closed.{OwnerByFile, GroupByFile, CapByFile, CapByRoot, OnlyCaps, Adds}
use Rattle.model_box.specs.Gains.{SettableUid, SettableGid, SpreadsUid, SpreadsGid, GainsFsUid, GainsFsGid}
use Rattle.model_box.specs.Gains.{GainsGroups, GainsInheritable, GainsRoot}
use Rattle.model_box.specs.Files.{ZeroIn}
pub use Rattle.model_box.specs.Firsts.{ClosedIn, IsFirstOpenRow, IsFirstOpen}
use Rattle.model_box.specs.Row.{Part, Uids, NewPrivs, RootCounts, Row, Standing, Fresh, row_at, row_number, space_under}
use Rattle.model_box.specs.Spread.{Brings, Meet}
use Rattle.cm_box_rows.specs.Rows.{HoldsAll, InEitherRow}
use Rattle.cm_box_rows.specs.Spread.{CanMakeIn, MadeIn, JoinsHeld, ByJoiningTo}
use Rattle.model_box.specs.Rule as model

-- what setgroups(2) adds, where the word of the space isn't "deny"
abbrev pub GroupsAllowed : Spaces → ℕ → (Part → ℕ → Type 0) → Part → ℕ → Type 0
GroupsAllowed spaces n row part x = IsTrue (not (space_of spaces n).deny) × GainsGroups row part x

-- what the members of a row can gain by one of the first eleven rules
abbrev pub Gains : FileTable → Spaces → (Row → Part → ℕ → Type 0) → model.Rule → Row → Part → ℕ → Type 0
Gains files spaces bounds model.SetUid row = SpreadsUid (bounds row) (SettableUid (bounds row))
Gains files spaces bounds model.SetFsUid row = GainsFsUid (bounds row)
Gains files spaces bounds model.SetGid row = SpreadsGid (bounds row) (SettableGid (bounds row))
Gains files spaces bounds model.SetFsGid row = GainsFsGid (bounds row)
Gains files spaces bounds model.SetGroups row = GroupsAllowed spaces (space_under row) (bounds row)
Gains files spaces bounds model.CapSet row = GainsInheritable (bounds row)
Gains files spaces bounds model.SecureBits row = GainsRoot (bounds row)
Gains files spaces bounds model.ExecUid row =
    SpreadsUid (bounds row) (OwnerByFile files spaces (space_under row) (bounds row))
Gains files spaces bounds model.ExecGid row =
    SpreadsGid (bounds row) (GroupByFile files spaces (space_under row) (bounds row))
Gains files spaces bounds model.ExecCaps row = OnlyCaps (CapByFile files spaces bounds row)
Gains files spaces bounds model.ExecRoot row = OnlyCaps (CapByRoot spaces bounds row)
Gains files spaces bounds model.Create row = λ part x. ⊥
Gains files spaces bounds model.Join row = λ part x. ⊥
Gains files spaces bounds model.Maps row = λ part x. ⊥

-- A program can run as root for a member of the row, one that may lack no_new_privs and the securebit against root, and
-- of whose three user ids one can be inside 0.
abbrev pub RootRuns : Spaces → (Row → Part → ℕ → Type 0) → Row → Type 0
RootRuns spaces bounds row =
    bounds row RootCounts 0 × bounds row NewPrivs 0 × Meet (bounds row Uids) (ZeroIn spaces bounds row)

-- what comes to a row by making spaces
abbrev pub ByMaking : Spaces → (Row → Part → ℕ → Type 0) → Row → Part → ℕ → Type 0
ByMaking spaces bounds (Standing n) part x = ⊥
ByMaking spaces bounds (Fresh n) part x = MadeIn spaces n (bounds (Standing n)) part x

-- what comes to a row by joining
abbrev pub ByJoins : Spaces → (Row → Part → ℕ → Type 0) → Row → Part → ℕ → Type 0
ByJoins spaces bounds (Standing n) part x = ByJoiningTo spaces bounds n part x
ByJoins spaces bounds (Fresh n) part x = ⊥

-- The row holds what the makers of later spaces bring.
abbrev pub CreateHeld : Spaces → (Row → Part → ℕ → Type 0) → Row → Type 0
CreateHeld spaces bounds (Standing n) = Unit {0}
CreateHeld spaces bounds (Fresh n) =
    CanMakeIn spaces n (bounds (Standing n)) → HoldsAll (bounds (Fresh n)) (Brings (bounds (Standing n)))

-- The row holds what comes by joining.
abbrev pub JoinHeld : Spaces → (Row → Part → ℕ → Type 0) → Row → Type 0
JoinHeld spaces bounds (Standing n) = JoinsHeld spaces bounds (bounds (Standing n)) n
JoinHeld spaces bounds (Fresh n) = Unit {0}

-- a row, and what a rule adds to it
abbrev pub WithAdded : (CallKind → Bool) → FileTable → Spaces → (Row → Part → ℕ → Type 0) → model.Rule → Row
    → Part → ℕ → Type 0
WithAdded permitted files spaces bounds rule row =
    InEitherRow (bounds row) (Adds permitted files spaces bounds rule row)

-- The new bounds are the old ones, with what is added to the row of that number.
pub record IsJoinedAt (y : ℕ) (old : Row → Part → ℕ → Type 0) (Added : Part → ℕ → Type 0)
    (new : Row → Part → ℕ → Type 0) : Type 0 where
  pub there : (part : Part) (x : ℕ) → new (row_at y) part x ↔ (old (row_at y) part x ⊎ Added part x)
  pub elsewhere : (row : Row) → row_number row ≢ y → (part : Part) (x : ℕ) → new row part x ↔ old row part x
