-- For a settled family the verdict is never open.
use Rattle.std.specs.Prelude.{◌≡◌, ℕ, List, Some, None, All}
use Rattle.cm_filter.specs.Filters.{permits}
use Rattle.model_cred.specs.Process.{State}
use Rattle.model_cred.specs.Right.{Right}
use Rattle.model_cred.specs.World.{World}
use Rattle.model_run.specs.Own.{common_filter}
use Rattle.model_box.specs.Covers.{StateFits}
use Rattle.model_box.specs.Laws.{tested}
use Rattle.model_box.specs.Meets.{Meets}
use Rattle.model_plans.specs.PlanRun.{Found, first_found}
use Rattle.model_verdict.specs.Back.{TakeBack}
use Rattle.model_verdict.specs.Least.{Test, IsLeast, AllMeet}
use Rattle.model_verdict.specs.Settled.{SettledIn}

-- some plan of the list ends with a holder of the right
abbrev pub FoundIn : World → State → List ℕ → Right → Type 0
FoundIn w s members right = (found : Found) × (first_found (permits w.filter) w s members right ≡ Some found)

-- all closed covering bounds meet the right
abbrev pub AllMeetIn : World → State → List ℕ → Right → Type 0
AllMeetIn w s members right = AllMeet (permits (common_filter w s members)) w.files s members right

-- the bounds are the least that are closed and cover the members
abbrev pub LeastIn : World → State → List ℕ → Test → Type 0
LeastIn w s members bounds = IsLeast (permits (common_filter w s members)) w.files s members bounds

-- Where a family is settled, and all closed covering bounds meet a right, a plan of the list ends holding it.
unfoldable pub SettledIsFound : Type 0
SettledIsFound =
    (w : World) (s : State) (members : List ℕ) (right : Right) → StateFits s → All TakeBack s.spaces
    → SettledIn w s members → AllMeetIn w s members right → FoundIn w s members right

-- So where the least closed covering bounds of a settled family meet a right, a plan of the list ends holding it.
unfoldable pub SettledDecides : Type 0
SettledDecides =
    (w : World) (s : State) (members : List ℕ) (right : Right) (least : Test) → StateFits s → All TakeBack s.spaces
    → SettledIn w s members → LeastIn w s members least → Meets s.spaces (tested least) right
    → FoundIn w s members right

-- The verdict on a right is open: all closed covering bounds meet it, and no plan of the list ends holding it.
pub record OpenIn (w : World) (s : State) (members : List ℕ) (right : Right) : Type 0 where
  pub met : AllMeetIn w s members right
  pub unfound : first_found (permits w.filter) w s members right ≡ None

-- So the verdict on a settled family is never open.
unfoldable pub SettledIsNeverOpen : Type 0
SettledIsNeverOpen =
    (w : World) (s : State) (members : List ℕ) (right : Right) → StateFits s → All TakeBack s.spaces
    → SettledIn w s members → OpenIn w s members right → ⊥
