-- What plans come to: the run of each, by the machine's own steps, and the first that ends with a holder of the right.
use Rattle.std.specs.Prelude.{ℕ, find, Bool, List, [], ◌∷◌, ◌++◌, Option, None, Some, option_map}
use Rattle.std.specs.Option.{option_or}
use Rattle.cm_filter.specs.declared.kind.CallKind.{CallKind}
use Rattle.model_cred.specs.Call.{Call, Event}
use Rattle.model_cred.specs.Process.{Process, State, process_at}
use Rattle.model_cred.specs.Right.{Right}
use Rattle.model_cred.specs.World.{World}
use Rattle.model_run.specs.Holds.{process_holds}
use Rattle.model_run.specs.Own.{permitted_under}
use Rattle.model_run.specs.Ruling.{Ruling, own}
use Rattle.model_plans.specs.Move.{seat_of, Setting, Move, call_of}
use Rattle.model_plans.specs.Plan.{Plan, plans}

-- What is made: the events, refusals among them, and the state after them.
pub record PlanRun : Type 0 where
  pub events : List Event
  pub state : State

-- nothing is made
abbrev pub nothing_made : State → PlanRun
nothing_made s = record { events = []; state = s }

-- one call, with the result that the rules give for it
abbrev pub call_made : World → State → ℕ → Process → Option Call → PlanRun
call_made w s pid p None = nothing_made s
call_made w s pid p (Some call) =
    let r : Ruling = own w s p call in
    record { events = record { pid = pid; call = call; res = r.res } ∷ []; state = r.state }

-- the setting of a process's moves in a state: what is permitted, and its own filter at that moment doesn't exclude
abbrev pub setting_in : (CallKind → Bool) → World → State → Right → Process → Setting
setting_in permitted w s right p = record {
  files = w.files;
  spaces = s.spaces;
  permitted = permitted_under p.filter permitted;
  right = right;
}

-- one move, whose call is found where the member stands; who isn't alive makes none
abbrev pub move_made : (CallKind → Bool) → World → State → Right → ℕ → Option Process → Move → PlanRun
move_made permitted w s right pid None move = nothing_made s
move_made permitted w s right pid (Some p) move =
    call_made w s pid p (call_of (setting_in permitted w s right p) (seat_of p) move)

-- The moves of a member, one after another, each in the state that those before it leave.
abbrev pub moves_made : (CallKind → Bool) → World → State → Right → ℕ → List Move → PlanRun
moves_made permitted w s right pid [] = nothing_made s
moves_made permitted w s right pid (move ∷ moves) =
    let one : PlanRun = move_made permitted w s right pid (process_at s.processes pid) move in
    let rest : PlanRun = moves_made permitted w one.state right pid moves in
    record { events = one.events ++ rest.events; state = rest.state }

-- the run of a plan
abbrev pub plan_run : (CallKind → Bool) → World → State → Right → Plan → PlanRun
plan_run permitted w s right plan = moves_made permitted w s right plan.pid plan.moves

-- the first of the members who holds the right, which is the least where members ascend
abbrev pub holder : State → List ℕ → Right → Option ℕ
holder s members right = find (λ pid. process_holds s pid right) members

-- What is found: the events of a run that ends with a holder, and the holder.
pub record Found : Type 0 where
  pub run : List Event
  pub holder : ℕ

-- what is found by a run
abbrev pub found_by : List ℕ → Right → PlanRun → Option Found
found_by members right made =
    option_map (λ pid. record { run = made.events; holder = pid }) (holder made.state members right)

-- the first answer of a function for the items of a list
abbrev pub first_some : {A B : Type 0} → (A → Option B) → List A → Option B
first_some answer [] = None
first_some answer (x ∷ xs) = option_or (answer x) (first_some answer xs)

-- What is found by the first plan whose run ends with a member that holds the right. Of a run the end alone counts.
unfoldable pub first_found : (CallKind → Bool) → World → State → List ℕ → Right → Option Found
first_found permitted w s members right =
    first_some (λ plan. found_by members right (plan_run permitted w s right plan)) (plans w s members right)
