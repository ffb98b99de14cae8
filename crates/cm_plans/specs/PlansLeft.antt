-- The list of plans as it is given, plan by plan.
use Rattle.std.specs.Prelude.{List, [], ◌∷◌, Option, None, Some}
use Rattle.cm_filter.specs.Filters.{permits}
use Rattle.model_cred.specs.Call.{Event}
use Rattle.model_cred.specs.Process.{State}
use Rattle.model_cred.specs.Right.{Right}
use Rattle.model_cred.specs.World.{World}
use Rattle.model_plans.specs.Plan.{Plan}
use Rattle.model_plans.specs.PlanRun.{plan_run}

-- The plans that are left, and what their runs rest on: the world, the state, and the right that is sought.
pub record PlansLeft : Type 0 where
  pub world : World
  pub state : State
  pub right : Right
  pub left : List Plan

-- the run of the first of these plans; none where there is no plan
abbrev pub run_next : World → State → Right → List Plan → Option (List Event)
run_next w s right [] = None
run_next w s right (plan ∷ plans) = Some (plan_run (permits w.filter) w s right plan).events

-- the plans after the first
abbrev pub later : List Plan → List Plan
later [] = []
later (plan ∷ plans) = plans
