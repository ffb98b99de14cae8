-- What is left of a member's plans, and what a step along the list does.
use Rattle.std.specs.Prelude.{◌≡◌, ℕ, List, Option, All}
use Rattle.cm_filter.specs.Filters.{permits}
use Rattle.cm_plans.specs.Choices.{IsChoiceOfWalk}
use Rattle.cm_plans.specs.Left.{StandsIn, left_at}
use Rattle.cm_plans.specs.PlansLeft.{later, run_next}
use Rattle.cm_plans.specs.declared.query.Query.{Query}
use Rattle.cm_plans.specs.declared.turn.Turn.{Turn}
use Rattle.cm_state.specs.Right.{right_of}
use Rattle.cm_declared.specs.World.{world_of}
use Rattle.model_cred.specs.Call.{Event}
use Rattle.model_cred.specs.Process.{State, process_at}
use Rattle.model_cred.specs.Right.{Right}
use Rattle.model_cred.specs.Space.{Spaces}
use Rattle.model_plans.specs.Plan.{Plan, plans_for}
use Rattle.model_plans.specs.PlanRun.{plan_run}

-- what is left of a member's plans
abbrev pub left_in : Right → Turn → List Plan
left_in right t = left_at right t.middles.items t.pid t.at

-- A walk makes the moves of its middle choices, and the choices at its place name only spaces that stand.
pub record TurnStands (spaces : Spaces) (t : Turn) : Type 0 where
  pub middles : All (IsChoiceOfWalk spaces) t.middles.items
  pub place : StandsIn spaces t.at

-- they are all plans of a member
abbrev pub AreAllOf : Query → State → ℕ → List Plan → Type 0
AreAllOf q s pid plans =
    plans ≡ plans_for q.world.now.files q.spaces.now (right_of q.right.now) pid (process_at s.processes pid)

-- it is the run of the plan
abbrev pub IsRunOf : Query → State → Plan → List Event → Type 0
IsRunOf q s plan run =
    run ≡ (plan_run (permits q.world.now.filter) (world_of q.world.now) s (right_of q.right.now) plan).events

-- A step along a list of plans gives the run of its first plan, and leaves the later ones; it gives none exactly where
-- no plan is left.
pub record Steps (q : Query) (s : State) (plans : List Plan) (run : Option (List Event)) (left : List Plan) : Type 0 where
  pub given : run ≡ run_next (world_of q.world.now) s (right_of q.right.now) plans
  pub rest : left ≡ later plans
