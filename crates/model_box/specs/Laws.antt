-- What is proved of bounds. A law that a contract cites can range over tests; the lemmas on which it rests range over
-- all bounds.
use Rattle.std.specs.Prelude.{◌≡◌, ◌↔◌, ◌⊎◌, ℕ, ◌<◌, ◌&&◌, Bool, false, IsTrue, All, List, length, slice_get, Some}
use Rattle.model_cred.specs.Call.{Event}
use Rattle.cm_filter.specs.Filters.{permits}
use Rattle.cm_filter.specs.declared.kind.CallKind.{CallKind}
use Rattle.cm_filter.specs.declared.kind.CallKind.TheVariants as kind
use Rattle.model_cred.specs.Files.{FileTable, KeepsFiles}
use Rattle.model_cred.specs.Process.{State, KeepsState}
use Rattle.model_cred.specs.Right.{Right}
use Rattle.model_cred.specs.Space.{Spaces}
use Rattle.model_cred.specs.World.{World, KeepsWorld}
use Rattle.model_run.specs.Holds.{process_holds}
use Rattle.model_run.specs.Later.{LaterRun, is_member}
use Rattle.model_run.specs.Own.{common_filter}
use Rattle.model_run.specs.Step.{Run}
use Rattle.model_box.specs.Row.{Part, Row, Standing, row_number, row_at, IsWithin}
use Rattle.model_box.specs.Rule.{Rule, SetUid, SetFsUid, SetGid, SetFsGid, SetGroups, CapSet, SecureBits, ExecUid}
use Rattle.model_box.specs.Rule.{ExecGid, ExecCaps, ExecRoot, Create, Join, Maps, rules_in_order, rule_number}
use Rattle.model_box.specs.Files.{FilesFit}
use Rattle.model_box.specs.Closed.{Adds, Closed}
use Rattle.model_box.specs.Covers.{Covers, StateFits}
use Rattle.model_box.specs.Meets.{Meets, IsOverStanding}
use Rattle.model_box.specs.Start.{HoldsStart}

-- bounds that a test gives, by the numbers of rows
abbrev pub tested : (ℕ → Part → ℕ → Bool) → Row → Part → ℕ → Type 0
tested bounds row part x = IsTrue (bounds (row_number row) part x)

-- Soundness: bounds that cover the members at the query, and are closed under the filter that is common to the world
-- and all members, cover them after every later run, of any length, with births, exits, created spaces, joins, written
-- maps and installed filters.
abbrev pub Soundness : Type 0
Soundness =
    (w : World) (s : State) (members : List ℕ) (bounds : ℕ → Part → ℕ → Bool)
    → StateFits s → FilesFit w.files s.spaces
    → Covers s members s members (tested bounds) → Closed (permits (common_filter w s members)) w.files s.spaces (tested bounds)
    → (events : List Event) (later : State) (members_then : List ℕ) → LaterRun w s members events later members_then
    → Covers s members later members_then (tested bounds)

-- Exclusion: where they don't meet a right besides, no member holds it after any such run, the present moment included.
abbrev pub Exclusion : Type 0
Exclusion =
    (w : World) (s : State) (members : List ℕ) (bounds : ℕ → Part → ℕ → Bool) (right : Right)
    → StateFits s → FilesFit w.files s.spaces → IsOverStanding s.spaces right
    → Covers s members s members (tested bounds) → Closed (permits (common_filter w s members)) w.files s.spaces (tested bounds)
    → (Meets s.spaces (tested bounds) right → ⊥)
    → (events : List Event) (later : State) (members_then : List ℕ) → LaterRun w s members events later members_then
    → (pid : ℕ) → IsTrue (is_member members_then pid) → process_holds later pid right ≡ false

-- Bounds cover the members at the query exactly where they hold the start bounds.
abbrev pub CoversAtStart : Type 0
CoversAtStart =
    (s : State) (members : List ℕ) (bounds : ℕ → Part → ℕ → Bool) → StateFits s
    → HoldsStart s members (tested bounds) ↔ Covers s members s members (tested bounds)

-- Each rule is monotone: to larger bounds it adds at least as much.
abbrev pub Monotone : Type 0
Monotone =
    (permitted : CallKind → Bool) (files : FileTable) (spaces : Spaces) (bounds wider : ℕ → Part → ℕ → Bool)
    → IsWithin (tested bounds) (tested wider) → (rule : Rule) (row : Row) (part : Part) (x : ℕ)
    → Adds permitted files spaces (tested bounds) rule row part x → Adds permitted files spaces (tested wider) rule row part x

-- Larger bounds meet at least as much.
abbrev pub MeetsMore : Type 0
MeetsMore =
    (spaces : Spaces) (bounds wider : ℕ → Part → ℕ → Bool) → IsWithin (tested bounds) (tested wider)
    → (right : Right) → Meets spaces (tested bounds) right → Meets spaces (tested wider) right

-- the one filter permits each call that the other permits
abbrev pub PermitsWithin : (CallKind → Bool) → (CallKind → Bool) → Type 0
PermitsWithin permitted wider = (k : CallKind) → IsTrue (permitted k) → IsTrue (wider k)

-- Where more calls are permitted each rule adds at least as much.
abbrev pub PermitsMore : Type 0
PermitsMore =
    (permitted wider : CallKind → Bool) → PermitsWithin permitted wider
    → (files : FileTable) (spaces : Spaces) (bounds : ℕ → Part → ℕ → Bool)
    → (rule : Rule) (row : Row) (part : Part) (x : ℕ) → Adds permitted files spaces (tested bounds) rule row part x
    → Adds wider files spaces (tested bounds) rule row part x

-- So bounds that are closed under a filter are closed under each that excludes more.
abbrev pub ClosedForFewer : Type 0
ClosedForFewer =
    (permitted wider : CallKind → Bool) → PermitsWithin permitted wider
    → (files : FileTable) (spaces : Spaces) (bounds : ℕ → Part → ℕ → Bool)
    → Closed wider files spaces (tested bounds) → Closed permitted files spaces (tested bounds)

-- what two bounds have in common
abbrev pub common : (ℕ → Part → ℕ → Bool) → (ℕ → Part → ℕ → Bool) → ℕ → Part → ℕ → Bool
common bounds other y part x = bounds y part x && other y part x

-- What two closed bounds have in common is closed, so that no two closed bounds are both smallest.
abbrev pub ClosedInCommon : Type 0
ClosedInCommon =
    (permitted : CallKind → Bool) (files : FileTable) (spaces : Spaces) (bounds other : ℕ → Part → ℕ → Bool)
    → Closed permitted files spaces (tested bounds) → Closed permitted files spaces (tested other)
    → Closed permitted files spaces (tested (common bounds other))

-- Nothing flows from a fresh row to a standing one: what is added to a standing row is read from standing rows alone.
abbrev pub StandingApart : Type 0
StandingApart =
    (permitted : CallKind → Bool) (files : FileTable) (spaces : Spaces) (bounds other : ℕ → Part → ℕ → Bool)
    → ((n : ℕ) (part : Part) (x : ℕ) → tested bounds (Standing n) part x → tested other (Standing n) part x)
    → (rule : Rule) (n : ℕ) (part : Part) (x : ℕ)
    → Adds permitted files spaces (tested bounds) rule (Standing n) part x → Adds permitted files spaces (tested other) rule (Standing n) part x

-- the calls that a rule rests on
abbrev pub RestsOn : Rule → CallKind → Type 0
RestsOn SetUid k = (k ≡ kind.SetUid) ⊎ (k ≡ kind.SetReUid) ⊎ (k ≡ kind.SetResUid)
RestsOn SetFsUid k = k ≡ kind.SetFsUid
RestsOn SetGid k = (k ≡ kind.SetGid) ⊎ (k ≡ kind.SetReGid) ⊎ (k ≡ kind.SetResGid)
RestsOn SetFsGid k = k ≡ kind.SetFsGid
RestsOn SetGroups k = k ≡ kind.SetGroups
RestsOn CapSet k = k ≡ kind.CapSet
RestsOn SecureBits k = k ≡ kind.SecureBits
RestsOn ExecUid k = k ≡ kind.Exec
RestsOn ExecGid k = k ≡ kind.Exec
RestsOn ExecCaps k = k ≡ kind.Exec
RestsOn ExecRoot k = k ≡ kind.Exec
RestsOn Create k = (k ≡ kind.Unshare) ⊎ (k ≡ kind.CloneUser)
RestsOn Join k = k ≡ kind.SetNs
RestsOn Maps k = (k ≡ kind.WriteUidMap) ⊎ (k ≡ kind.WriteGidMap)

-- Where the filter excludes all calls that a rule rests on, it adds nothing.
abbrev pub ExcludedRulesAddNothing : Type 0
ExcludedRulesAddNothing =
    (permitted : CallKind → Bool) (files : FileTable) (spaces : Spaces) (bounds : ℕ → Part → ℕ → Bool) (rule : Rule)
    → ((k : CallKind) → RestsOn rule k → permitted k ≡ false)
    → (row : Row) (part : Part) (x : ℕ) → Adds permitted files spaces (tested bounds) rule row part x → ⊥

-- What the laws above ask of a state holds of each that keeps what every state keeps.
abbrev pub KeptStatesFit : Type 0
KeptStatesFit = (s : State) → KeepsState s → StateFits s

-- What they ask of declared files holds beside all spaces among which those of the mounts stand.
abbrev pub KeptFilesFit : Type 0
KeptFilesFit =
    (files : FileTable) (spaces : Spaces) → KeepsFiles files → All (λ m. m.space < length spaces) files.mounts
    → FilesFit files spaces

-- So it does in each world, at the log's beginning and after each run.
abbrev pub FilesOfWorldsFit : Type 0
FilesOfWorldsFit = (w : World) → KeepsWorld w → (events : List Event) (later : State) → Run w w.start events later → FilesFit w.files later.spaces

-- Rows and their numbers go one to one.
pub record RowsByNumber : Type 0 where
  pub row : (row : Row) → row_at (row_number row) ≡ row
  pub number : (y : ℕ) → row_number (row_at y) ≡ y

-- The number of a rule is its place among the rules.
abbrev pub RulesByNumber : Type 0
RulesByNumber = (rule : Rule) → slice_get rules_in_order (rule_number rule) ≡ Some rule
