-- What is found, in the words of the definitions.
use Rattle.std.specs.Prelude.{◌≡◌, ℕ, List, Option, option_map}
use Rattle.cm_filter.specs.Filters.{permits}
use Rattle.cm_plans.specs.declared.query.Query.{Query}
use Rattle.cm_state.specs.Right.{right_of}
use Rattle.cm_state.specs.declared.right.Right.{Right}
use Rattle.cm_declared.specs.World.{world_of}
use Rattle.cm_declared.specs.declared.world.World.{World}
use Rattle.model_cred.specs.Call.{Event}
use Rattle.model_cred.specs.Process.{State, process_at}
use Rattle.model_plans.specs.PlanRun.{Found, first_found}
use Rattle.model_plans.specs.Walk.{found_for, found_among}

-- what the list of plans finds in the world
abbrev pub found_first : World → State → List ℕ → Right → Option Found
found_first w s members right = first_found (permits w.filter) (world_of w) s members (right_of right)

-- the run that it finds
abbrev pub run_first : World → State → List ℕ → Right → Option (List Event)
run_first w s members right = option_map (λ found. found.run) (found_first w s members right)

-- It is what these members find.
abbrev pub FoundAmongIs : Query → State → List ℕ → Option Found → Type 0
FoundAmongIs q s members found =
    found ≡ found_among (permits q.world.now.filter) (world_of q.world.now) s (right_of q.right.now) members

-- It is what the one member finds.
abbrev pub FoundForIs : Query → State → ℕ → Option Found → Type 0
FoundForIs q s pid found =
    found ≡ found_for (permits q.world.now.filter) (world_of q.world.now) s (right_of q.right.now) pid
    (process_at s.processes pid)
