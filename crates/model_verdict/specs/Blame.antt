-- What is blamed where the least closed covering bounds meet a right: the rule and the row after which the sweep first
-- meets it, or the start.
use Rattle.std.specs.Prelude.{◌≡◌, ◌↔◌, ℕ, suc, ◌≤◌, Bool, true, false, List}
use Rattle.cm_filter.specs.declared.kind.CallKind.{CallKind}
use Rattle.model_cred.specs.Files.{FileTable}
use Rattle.model_cred.specs.Process.{State, KeepsState}
use Rattle.model_cred.specs.Right.{Right}
use Rattle.model_box.specs.Row.{Part, Row, IsWithin}
use Rattle.model_box.specs.Rule.{Rule, SetUid, SetFsUid, SetGid, SetFsGid, SetGroups, CapSet, SecureBits, ExecUid}
use Rattle.model_box.specs.Rule.{ExecGid, ExecCaps, ExecRoot, Create, Join, Maps}
use Rattle.model_box.specs.Start.{StartHas}
use Rattle.model_box.specs.Covers.{StateFits}
use Rattle.model_box.specs.Encloses.{Encloses}
use Rattle.model_box.specs.Laws.{tested}
use Rattle.model_box.specs.Meets.{Meets, IsFirstMet}
use Rattle.model_verdict.specs.Least.{Test, Says, IsLeast}
use Rattle.model_verdict.specs.Sweep.{Turn, turn_at, swept}

-- What is blamed: the start, with the first row by which the start bounds meet the right; or a rule at a row.
pub data Blame : Type 0 where
  AtStart : Row → Blame
  ByTurn : Turn → Blame

-- The bounds first meet the right after the turn of that number: not at the start, nor after an earlier turn.
pub record FirstMeets (permitted : CallKind → Bool) (files : FileTable) (s : State) (members : List ℕ) (right : Right)
    (k : ℕ) : Type 0 where
  pub before : (j : ℕ) → j ≤ k → Meets s.spaces (swept permitted files s members j) right → ⊥
  pub meets : Meets s.spaces (swept permitted files s members (suc k)) right

-- What is blamed, with the bounds just before: where the start bounds meet the right, the start; else the first turn
-- after which the bounds meet it.
abbrev pub IsBlame : (CallKind → Bool) → FileTable → State → List ℕ → Right → Blame → Test → Type 0
IsBlame permitted files s members right (AtStart row) below =
    IsFirstMet s.spaces (StartHas s members) right row × Says below (StartHas s members)
IsBlame permitted files s members right (ByTurn turn) below =
    (k : ℕ) × (turn ≡ turn_at s.spaces k) × FirstMeets permitted files s members right k
    × Says below (swept permitted files s members k)

-- The bounds just before are within all bounds that are closed and cover the members.
unfoldable pub BlameIsWithin : Type 0
BlameIsWithin =
    (permitted : CallKind → Bool) (files : FileTable) (s : State) (members : List ℕ) (right : Right) (blame : Blame)
    (below other : Test) → StateFits s → IsBlame permitted files s members right blame below
    → Encloses permitted files s members (tested other) → IsWithin (tested below) (tested other)

-- Blame is determined: what is blamed, and what the bounds before it hold.
unfoldable pub OneBlame : Type 0
OneBlame =
    (permitted : CallKind → Bool) (files : FileTable) (s : State) (members : List ℕ) (right : Right)
    (one two : Blame) (below other : Test)
    → IsBlame permitted files s members right one below → IsBlame permitted files s members right two other
    → (one ≡ two) × ((row : Row) (part : Part) (x : ℕ) → tested below row part x ↔ tested other row part x)

-- The rules that can be blamed: those that add effective ids, groups, or permitted capabilities to a standing row.
abbrev pub can_be_blamed : Rule → Bool
can_be_blamed SetUid = true
can_be_blamed SetFsUid = false
can_be_blamed SetGid = true
can_be_blamed SetFsGid = false
can_be_blamed SetGroups = true
can_be_blamed CapSet = false
can_be_blamed SecureBits = false
can_be_blamed ExecUid = true
can_be_blamed ExecGid = true
can_be_blamed ExecCaps = true
can_be_blamed ExecRoot = true
can_be_blamed Create = false
can_be_blamed Join = true
can_be_blamed Maps = false

-- No other rule is blamed: what it adds is no right, or one that is met already.
unfoldable pub BlamedRules : Type 0
BlamedRules =
    (permitted : CallKind → Bool) (files : FileTable) (s : State) (members : List ℕ) (right : Right) (turn : Turn)
    (below : Test) → IsBlame permitted files s members right (ByTurn turn) below
    → can_be_blamed turn.rule ≡ true

-- Since the sweep grows, it is enough to look at the bounds before a turn and after it.
unfoldable pub BeforeAndAfter : Type 0
BeforeAndAfter =
    (permitted : CallKind → Bool) (files : FileTable) (s : State) (members : List ℕ) (right : Right) (k : ℕ)
    → (Meets s.spaces (swept permitted files s members k) right → ⊥)
    → Meets s.spaces (swept permitted files s members (suc k)) right
    → FirstMeets permitted files s members right k

-- there is a blame
pub record IsBlamed (permitted : CallKind → Bool) (files : FileTable) (s : State) (members : List ℕ) (right : Right)
    : Type 0 where
  pub blame : Blame
  pub below : Test
  pub is : IsBlame permitted files s members right blame below

-- There is a blame exactly where the least closed covering bounds meet the right.
unfoldable pub BlamedIfMet : Type 0
BlamedIfMet =
    (permitted : CallKind → Bool) (files : FileTable) (s : State) (members : List ℕ) (right : Right) (least : Test)
    → KeepsState s → IsLeast permitted files s members least
    → Meets s.spaces (tested least) right ↔ IsBlamed permitted files s members right
