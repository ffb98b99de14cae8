-- The run of a plan, on its member's seat, and what the member finds.
use Rattle.std.proofs.Common.{◌≡◌, ℕ, List, [], Option, None, Some, option_map, refl, sym, ap, ◌∙◌}
use Rattle.cm_filter.specs.Filters.{Filter, permits}
use Rattle.cm_plans.specs.Finds.{FoundForIs}
use Rattle.cm_plans.specs.Moves.{may_do, setting}
use Rattle.cm_plans.specs.Ready.{IsFor}
use Rattle.cm_plans.specs.Turns.{IsRunOf}
use Rattle.cm_plans.specs.declared.query.May.{May}
use Rattle.cm_plans.specs.declared.query.Query.{Query}
use Rattle.cm_state.specs.Right.{right_of}
use Rattle.cm_declared.specs.World.{world_of}
use Rattle.model_cred.specs.Call.{Event}
use Rattle.model_cred.specs.Process.{Process, State, process_at}
use Rattle.model_cred.specs.Space.{Spaces}
use Rattle.model_run.proofs.Filters.{filter_found}
use Rattle.model_plans.specs.Move.{Move, Seat, Setting, seat_of}
use Rattle.model_plans.specs.PlanRun.{Found, PlanRun, setting_in}
use Rattle.model_plans.specs.Walk.{events_of, found_at, found_for, moves_found}
use Rattle.model_plans.proofs.Walks.{walk_run, dead_run}

-- ---- what these moves find
pub found_moving : (q : Setting) (pid : ℕ) (seat : Seat) (moves : List Move) (run : List Event) → Some moves ≡ moves_found q seat
    → run ≡ events_of q pid seat moves → Some (record { run = run; holder = pid }) ≡ found_at q pid seat
found_moving q pid seat moves run first is =
    let found : List Event → Option Found = λ run. Some (record { run = run; holder = pid }) in
    let by : List Move → Found = λ moves. record { run = events_of q pid seat moves; holder = pid } in
    ap found is ∙ ap (option_map by) first

-- ---- the setting of its moves
module _ (q : Query) (s : State) (pid : ℕ) (moving : IsFor q s pid) where
  setting_is : (p : Process) → process_at s.processes pid ≡ Some p → q.spaces.now ≡ s.spaces
      → setting q ≡ setting_in (permits q.world.now.filter) (world_of q.world.now) s (right_of q.right.now) p
  setting_is p lives same =
      let of : Spaces → May → Setting
      = λ spaces may. record { files = q.world.now.files; spaces = spaces; permitted = may_do may; right = right_of q.right.now } in
      let may_with : Filter → May = λ own. record { world = q.world.now.filter; own = own } in
      ap (λ (spaces : Spaces). of spaces q.may) same ∙ ap (of s.spaces) (moving ∙ ap may_with (filter_found s pid p lives))

  -- ---- what it finds
  found_by : (o : Option Process) → process_at s.processes pid ≡ o → (seat : Seat) (found : Option Found) → Some seat ≡ option_map seat_of o
      → q.spaces.now ≡ s.spaces → found ≡ found_at (setting q) pid seat → FoundForIs q s pid found
  found_by None dead seat found is same made = absurd (cc)
  found_by (Some p) lives seat found is same made =
      let there : seat ≡ seat_of p = cc in
      made ∙ ap (λ (at : Seat). found_at (setting q) pid at) there
      ∙ ap (λ (at : Setting). found_at at pid (seat_of p)) (setting_is p lives same)
      ∙ sym (ap (found_for (permits q.world.now.filter) (world_of q.world.now) s (right_of q.right.now) pid) lives)

  pub found_seated : (seat : Seat) (found : Option Found) → Some seat ≡ option_map seat_of (process_at s.processes pid)
      → q.spaces.now ≡ s.spaces → found ≡ found_at (setting q) pid seat → FoundForIs q s pid found
  found_seated = found_by (process_at s.processes pid) refl

  -- who isn't alive finds nothing
  none_by : (o : Option Process) → process_at s.processes pid ≡ o → None ≡ option_map seat_of o → FoundForIs q s pid None
  none_by None dead is = sym (ap (found_for (permits q.world.now.filter) (world_of q.world.now) s (right_of q.right.now) pid) dead)
  none_by (Some p) lives is = absurd (cc)

  pub found_unseated : None ≡ option_map seat_of (process_at s.processes pid) → FoundForIs q s pid None
  found_unseated = none_by (process_at s.processes pid) refl

-- ---- the run of a plan
module _ (q : Query) (s : State) (pid : ℕ) (moves : List Move) (run : List Event) (moving : IsFor q s pid) where
  run_is : (p : Process) → process_at s.processes pid ≡ Some p → q.spaces.now ≡ s.spaces
      → run ≡ events_of (setting q) pid (seat_of p) moves → IsRunOf q s (record { pid = pid; moves = moves }) run
  run_is p lives same is =
      is ∙ ap (λ (at : Setting). events_of at pid (seat_of p) moves) (setting_is q s pid moving p lives same)
      ∙ sym (ap (λ (made : PlanRun). made.events)
      (walk_run (permits q.world.now.filter) (world_of q.world.now) s (right_of q.right.now) pid p moves lives))

  -- who isn't alive makes none
  run_of_dead : process_at s.processes pid ≡ None → run ≡ [] → IsRunOf q s (record { pid = pid; moves = moves }) run
  run_of_dead dead is =
      is ∙ sym (ap (λ (made : PlanRun). made.events)
      (dead_run (permits q.world.now.filter) (world_of q.world.now) s (right_of q.right.now) pid moves dead))

  -- by the seat that is copied out of the state
  seated_by : (o : Option Process) → process_at s.processes pid ≡ o → (seat : Seat) → Some seat ≡ option_map seat_of o
      → q.spaces.now ≡ s.spaces → run ≡ events_of (setting q) pid seat moves → IsRunOf q s (record { pid = pid; moves = moves }) run
  seated_by None dead seat is same made = absurd (cc)
  seated_by (Some p) lives seat is same made =
      let there : seat ≡ seat_of p = cc in
      run_is p lives same (made ∙ ap (λ (at : Seat). events_of (setting q) pid at moves) there)

  pub run_seated : (seat : Seat) → Some seat ≡ option_map seat_of (process_at s.processes pid)
      → q.spaces.now ≡ s.spaces → run ≡ events_of (setting q) pid seat moves → IsRunOf q s (record { pid = pid; moves = moves }) run
  run_seated = seated_by (process_at s.processes pid) refl

  unseated_by : (o : Option Process) → process_at s.processes pid ≡ o → None ≡ option_map seat_of o → run ≡ []
      → IsRunOf q s (record { pid = pid; moves = moves }) run
  unseated_by None dead is made = run_of_dead dead made
  unseated_by (Some p) lives is made = absurd (cc)

  pub run_unseated : None ≡ option_map seat_of (process_at s.processes pid) → run ≡ [] → IsRunOf q s (record { pid = pid; moves = moves }) run
  run_unseated = unseated_by (process_at s.processes pid) refl
