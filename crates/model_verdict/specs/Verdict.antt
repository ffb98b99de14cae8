-- The verdict on a right of a family: a plan of the list ends holding it, or the least bounds exclude it, or neither.
use Rattle.std.specs.Prelude.{◌≡◌, ◌↔◌, ℕ, false, IsTrue, List, Some, None}
use Rattle.cm_filter.specs.Filters.{permits}
use Rattle.model_cred.specs.Call.{Event}
use Rattle.model_cred.specs.Process.{State, KeepsState}
use Rattle.model_cred.specs.Right.{Right}
use Rattle.model_cred.specs.World.{World}
use Rattle.model_run.specs.Holds.{process_holds}
use Rattle.model_run.specs.Later.{LaterRun, is_member}
use Rattle.model_run.specs.Own.{common_filter}
use Rattle.model_box.specs.Encloses.{Encloses}
use Rattle.model_box.specs.Files.{FilesFit}
use Rattle.model_box.specs.Laws.{tested}
use Rattle.model_box.specs.Meets.{Meets, IsOverStanding}
use Rattle.model_box.specs.Row.{Part, Row}
use Rattle.model_plans.specs.Firsts.{EndsHolding}
use Rattle.model_plans.specs.PlanRun.{Found, first_found}
use Rattle.model_verdict.specs.Least.{Test}
use Rattle.model_verdict.specs.Blame.{Blame, IsBlame}
use Rattle.model_verdict.specs.Settled.{SettledIn}
use Rattle.model_verdict.specs.Decides.{AllMeetIn, LeastIn, OpenIn}

-- No, with the run and the holder that are found; yes, with the least bounds; or undecided, with what is blamed and the
-- bounds just before.
pub data Verdict : Type 0 where
  No : Found → Verdict
  Yes : Test → Verdict
  Undecided : Blame → Test → Verdict

-- what is blamed, with the bounds just before
abbrev pub BlameIn : World → State → List ℕ → Right → Blame → Test → Type 0
BlameIn w s members right blame below =
    IsBlame (permits (common_filter w s members)) w.files s members right blame below

-- Which verdict it is: no where a plan of the list ends with a holder, with the first such plan. Else yes where the
-- least closed covering bounds don't meet the right. Else undecided. Each move of a plan goes by the world's filter and
-- the member's own, the bounds by the filter that is common to the world and all members.
abbrev pub VerdictIn : World → State → List ℕ → Right → Verdict → Type 0
VerdictIn w s members right (No found) = first_found (permits w.filter) w s members right ≡ Some found
VerdictIn w s members right (Yes bounds) =
    (first_found (permits w.filter) w s members right ≡ None)
    × LeastIn w s members bounds
    × (Meets s.spaces (tested bounds) right → ⊥)
VerdictIn w s members right (Undecided blame below) =
    (first_found (permits w.filter) w s members right ≡ None)
    × AllMeetIn w s members right
    × BlameIn w s members right blame below

-- There is a verdict on each right, in each state.
unfoldable pub VerdictIsThere : Type 0
VerdictIsThere =
    (w : World) (s : State) (members : List ℕ) (right : Right) → KeepsState s
    → (verdict : Verdict) × VerdictIn w s members right verdict

-- the two tests say the same
abbrev pub SaySame : Test → Test → Type 0
SaySame one two = (row : Row) (part : Part) (x : ℕ) → tested one row part x ↔ tested two row part x

-- the two verdicts are one: the same run and holder, the same bounds, or the same blame and the same bounds before it
abbrev pub AreOne : Verdict → Verdict → Type 0
AreOne (No one) (No two) = one ≡ two
AreOne (Yes one) (Yes two) = SaySame one two
AreOne (Undecided one below) (Undecided two other) = (one ≡ two) × SaySame below other
AreOne _ _ = ⊥

-- And there is one alone.
unfoldable pub OneVerdict : Type 0
OneVerdict =
    (w : World) (s : State) (members : List ℕ) (right : Right) (one two : Verdict)
    → VerdictIn w s members right one → VerdictIn w s members right two → AreOne one two

-- No: there is a later run, after which a member holds the right.
unfoldable pub NoIsShown : Type 0
NoIsShown =
    (w : World) (s : State) (members : List ℕ) (right : Right) (found : Found)
    → VerdictIn w s members right (No found) → EndsHolding (permits w.filter) w s members right found

-- Yes: after no later run, of any length, does a member hold the right.
unfoldable pub YesIsKept : Type 0
YesIsKept =
    (w : World) (s : State) (members : List ℕ) (right : Right) (bounds : Test)
    → KeepsState s → FilesFit w.files s.spaces → IsOverStanding s.spaces right
    → VerdictIn w s members right (Yes bounds)
    → (events : List Event) (later : State) (members_then : List ℕ) → LaterRun w s members events later members_then
    → (pid : ℕ) → IsTrue (is_member members_then pid) → process_holds later pid right ≡ false

-- bounds that are closed, cover the members, and don't meet the right
pub record ExcludedIn (w : World) (s : State) (members : List ℕ) (right : Right) : Type 0 where
  pub bounds : Test
  pub encloses : Encloses (permits (common_filter w s members)) w.files s members (tested bounds)
  pub apart : Meets s.spaces (tested bounds) right → ⊥

-- It is yes exactly where some closed covering bounds don't meet the right.
unfoldable pub YesExactly : Type 0
YesExactly =
    (w : World) (s : State) (members : List ℕ) (right : Right)
    → KeepsState s → FilesFit w.files s.spaces → IsOverStanding s.spaces right
    → ((bounds : Test) × VerdictIn w s members right (Yes bounds)) ↔ ExcludedIn w s members right

-- It is undecided exactly where the verdict is open: all closed covering bounds meet the right, and no plan of the list
-- ends holding it.
unfoldable pub UndecidedExactly : Type 0
UndecidedExactly =
    (w : World) (s : State) (members : List ℕ) (right : Right) → KeepsState s
    → ((blame : Blame) × (below : Test) × VerdictIn w s members right (Undecided blame below))
    ↔ OpenIn w s members right

-- Undecided: the family isn't settled.
unfoldable pub UndecidedIsUnsettled : Type 0
UndecidedIsUnsettled =
    (w : World) (s : State) (members : List ℕ) (right : Right) (blame : Blame) (below : Test) → KeepsState s
    → VerdictIn w s members right (Undecided blame below) → SettledIn w s members → ⊥
