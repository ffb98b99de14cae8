-- What each kind of verdict says.
use Rattle.std.specs.Prelude.{◌≡◌, ℕ, List, Some, All}
use Rattle.cm_filter.specs.Filters.{permits}
use Rattle.model_cred.specs.Process.{State}
use Rattle.model_cred.specs.Right.{Right}
use Rattle.model_cred.specs.World.{World}
use Rattle.model_run.specs.Later.{LaterRun}
use Rattle.model_run.specs.Own.{common_filter}
use Rattle.model_box.specs.Covers.{StateFits}
use Rattle.model_box.specs.Encloses.{Encloses}
use Rattle.model_box.specs.Laws.{tested}
use Rattle.model_box.specs.Meets.{Meets, IsFirstMet}
use Rattle.model_box.specs.Row.{IsWithin}
use Rattle.model_box.specs.Start.{StartHas}
use Rattle.model_plans.specs.Firsts.{PidsAscend, IsFirst, IsLeastHolder}
use Rattle.model_plans.specs.Plan.{Plan}
use Rattle.model_plans.specs.PlanRun.{Found, first_found, plan_run}
use Rattle.model_verdict.specs.Blame.{Blame, AtStart, ByTurn}
pub use Rattle.model_verdict.specs.Decides.{FoundIn, OpenIn}
use Rattle.model_verdict.specs.Least.{Test, Says}
pub use Rattle.model_verdict.specs.Settled.{SettledIn}
use Rattle.model_verdict.specs.Sweep.{widened}
pub use Rattle.model_verdict.specs.Verdict.{VerdictIn, ExcludedIn, BlameIn}

-- ---- what a no says
-- the state at the end of a plan's run
abbrev pub end_in : World → State → Right → Plan → State
end_in w s right plan = (plan_run (permits w.filter) w s right plan).state

-- What is found is the run of the first plan of the list that ends with a member who holds the right. It is a later run, of
-- calls of one member; and the holder is the least member that holds the right then.
pub record FirstRunIn (w : World) (s : State) (members : List ℕ) (right : Right) (found : Found) : Type 0 where
  pub first : IsFirst (permits w.filter) w s members right found
  pub later : LaterRun w s members found.run (end_in w s right first.plan) members
  pub callers : All (λ e. e.pid ≡ first.plan.pid) found.run
  pub least : IsLeastHolder (end_in w s right first.plan) members right found.holder

-- So it is of a no.
unfoldable pub NoIsFirstRun : Type 0
NoIsFirstRun =
    (w : World) (s : State) (members : List ℕ) (right : Right) (found : Found) → PidsAscend members
    → first_found (permits w.filter) w s members right ≡ Some found → FirstRunIn w s members right found

-- ---- what an undecided says
-- Where the start is blamed, the bounds are the start bounds, and this is the first row by which they meet the right. Where
-- a rule at a row is, they don't meet the right, and with what the rule adds to the row they do.
abbrev pub BringsRight : World → State → List ℕ → Right → Blame → Test → Type 0
BringsRight w s members right (AtStart row) below =
    Says below (StartHas s members) × IsFirstMet s.spaces (tested below) right row
BringsRight w s members right (ByTurn turn) below =
    (Meets s.spaces (tested below) right → ⊥)
    × Meets s.spaces (widened (permits (common_filter w s members)) w.files s.spaces (tested below) turn) right

-- The bounds are within all bounds that are closed and cover the members; and what is blamed brings the right into them.
pub record BelowIn (w : World) (s : State) (members : List ℕ) (right : Right) (blame : Blame) (below : Test) : Type 0
  where
    pub within : (other : Test) → Encloses (permits (common_filter w s members)) w.files s members (tested other)
        → IsWithin (tested below) (tested other)
    pub brings : BringsRight w s members right blame below

-- So it is of what is blamed.
unfoldable pub BlameIsBelow : Type 0
BlameIsBelow =
    (w : World) (s : State) (members : List ℕ) (right : Right) (blame : Blame) (below : Test) → StateFits s
    → BlameIn w s members right blame below → BelowIn w s members right blame below
