-- The run of a plan stays within the limits of live processes and of spaces: its calls change their caller alone. So from the
-- state after an accepted log, which is within them.
use Rattle.std.proofs.Common.{◌≡◌, ℕ, ◌≤◌, Bool, false, cond, nat_lt, length, List, [], ◌∷◌, Option, Some, None, refl, sym, ◌∙◌, ap, ap₂, subst, All}
use Rattle.std.proofs.lemmas.Bool.{le-ltb}
use Rattle.cm_base.specs.declared.limited.Limited.{Limited}
use Rattle.cm_base.specs.declared.limited.Limited.TheVariants as limit
use Rattle.cm_base.specs.Limited.{limit_number}
use Rattle.cm_filter.specs.declared.kind.CallKind.{CallKind}
use Rattle.model_cred.specs.Call.{Call, Event}
use Rattle.model_cred.specs.Process.{Process, State, process_at}
use Rattle.model_cred.specs.Right.{Right}
use Rattle.model_cred.specs.Space.{Spaces}
use Rattle.model_cred.specs.World.{World}
use Rattle.model_laws.proofs.Owning.{own_step}
use Rattle.model_plans.proofs.Calls.{call_named}
use Rattle.model_plans.proofs.Laters.{MovesStand, MoveStands, join_stands, all_plans}
use Rattle.model_plans.proofs.Lists.{all_at}
use Rattle.model_plans.proofs.Others.{put_length}
use Rattle.model_plans.proofs.Walks.{IsOwn, own_alone, call_own}
use Rattle.model_plans.specs.Firsts.{IsFirst}
use Rattle.model_plans.specs.Move.{seat_of, Setting, Move, call_of}
use Rattle.model_plans.specs.Plan.{Plan, plans}
use Rattle.model_plans.specs.PlanRun.{PlanRun, Found, setting_in, moves_made, move_made, call_made, plan_run}
use Rattle.model_plans.specs.Shortcuts.{then_made}
use Rattle.model_report.specs.Causes.{IsAccepted}
use Rattle.model_run.specs.Ruling.{Ruling, own}
use Rattle.model_run.specs.Step.{names_no_space}
use Rattle.model_run.specs.Within.{IsWithin, RunWithin}
use Rattle.model_text.proofs.Starts.{start_spaces, start_processes}

-- what is exceeded by so many processes and spaces
abbrev exceeded_by : ℕ → ℕ → Option Limited
exceeded_by live spaces =
    cond (nat_lt (limit_number limit.Processes) live) (Some limit.Processes)
    (cond (nat_lt (limit_number limit.Spaces) spaces) (Some limit.Spaces) None)

-- a state with as many processes, and the same spaces, is within the limits too
still_within : (s t : State) → length t.processes ≡ length s.processes → t.spaces ≡ s.spaces → IsWithin s → IsWithin t
still_within s t live spaces within =
    ap₂ (λ (m : ℕ) (all : Spaces). exceeded_by m (length all)) live spaces ∙ within

module _ (permitted : CallKind → Bool) (w : World) (right : Right) (pid : ℕ) where
  -- what is made is such a run
  abbrev StaysWithin : State → PlanRun → Type 0
  StaysWithin s made = RunWithin w s made.events made.state

  call_within : (s : State) (p : Process) (moves : List Move) (o : Option Call) → process_at s.processes pid ≡ Some p
      → ((call : Call) → o ≡ Some call → IsOwn p call × (names_no_space s.spaces call ≡ false))
      → IsWithin s → ((t : State) → t.spaces ≡ s.spaces → IsWithin t → StaysWithin t (moves_made permitted w t right pid moves))
      → StaysWithin s (then_made permitted w right pid (call_made w s pid p o) moves)
  call_within s p moves None lives plain within rest = rest s refl within
  call_within s p moves (Some call) lives plain within rest =
      let is : IsOwn p call × (names_no_space s.spaces call ≡ false) = plain call refl in
      let r : Ruling = own w s p call in
      let alone = own_alone w s p call is.0 in
      let spaces : r.state.spaces ≡ s.spaces = ap (λ (x : Ruling). x.state.spaces) alone in
      let live : length r.state.processes ≡ length s.processes
      = ap (λ (x : Ruling). length x.state.processes) alone ∙ put_length _ s.processes in
      let next : IsWithin r.state = still_within s r.state live spaces within in (
        r.state,
        own_step w s (record { pid = pid; call = call; res = r.res }) p lives is.1 refl,
        next,
        rest r.state spaces next,
      )

  move_within : (s : State) (o : Option Process) (move : Move) (moves : List Move) → process_at s.processes pid ≡ o
      → MoveStands w.files s.spaces move → IsWithin s
      → ((t : State) → t.spaces ≡ s.spaces → IsWithin t → StaysWithin t (moves_made permitted w t right pid moves))
      → StaysWithin s (then_made permitted w right pid (move_made permitted w s right pid o move) moves)
  move_within s None move moves lives there within rest = rest s refl within
  move_within s (Some p) move moves lives there within rest =
      let q : Setting = setting_in permitted w s right p in
      call_within s p moves (call_of q (seat_of p) move) lives
      (λ call is. (call_own permitted w s right p move call is, call_named q (seat_of p) move call (join_stands w.files s.spaces move there) is))
      within rest

  moves_within : (s : State) (moves : List Move) → MovesStand w.files s.spaces moves → IsWithin s
      → StaysWithin s (moves_made permitted w s right pid moves)
  moves_within s [] stand within = refl
  moves_within s (move ∷ moves) stand within =
      move_within s (process_at s.processes pid) move moves refl stand.0 within
      (λ t same next. moves_within t moves (subst (λ (spaces : Spaces). MovesStand w.files spaces moves) (sym same) stand.1) next)

-- the run that is found is such a run
pub found_within : (permitted : CallKind → Bool) (w : World) (s : State) (members : List ℕ) (right : Right) (found : Found) → IsWithin s
    → (is : IsFirst permitted w s members right found) → RunWithin w s found.run (plan_run permitted w s right is.plan).state
found_within permitted w s members right found within is =
    let Stays : Plan → Type 0 = λ plan. RunWithin w s (plan_run permitted w s right plan).events (plan_run permitted w s right plan).state in
    let all : All Stays (plans w s members right)
    = all_plans Stays w s members right refl (λ pid moves member stand. moves_within permitted w right pid s moves stand within) in
    subst (λ (es : List Event). RunWithin w s es (plan_run permitted w s right is.plan).state) (sym is.run)
    (all_at Stays is.before is.after is.plan (subst (All Stays) is.listed all))

-- ---- the state after an accepted log
pub sizes_within : (s : State) → length s.processes ≤ limit_number limit.Processes → length s.spaces ≤ limit_number limit.Spaces → IsWithin s
sizes_within s live spaces =
    ap (λ (b : Bool). cond b (Some limit.Processes) (cond (nat_lt (limit_number limit.Spaces) (length s.spaces)) (Some limit.Spaces) None))
    (le-ltb (limit_number limit.Processes) (length s.processes) live)
    ∙ ap (λ (b : Bool). cond b (Some limit.Spaces) None) (le-ltb (limit_number limit.Spaces) (length s.spaces) spaces)

run_within : (w : World) (s : State) (es : List Event) (s' : State) → IsWithin s → RunWithin w s es s' → IsWithin s'
run_within w s [] s' within run = subst IsWithin (sym run) within
run_within w s (e ∷ es) s' within run = run_within w run.0 es s' run.2 run.3

pub accepted_within : (words : List (List ℕ)) (bytes : List ℕ → List ℕ) (is : IsAccepted words bytes) → IsWithin is.state
accepted_within words bytes is =
    let text : List ℕ = bytes is.comes.begins.names.world in
    run_within is.world is.world.start _ is.state
    (sizes_within is.world.start (start_processes text is.world is.comes.begins.names.reads) (start_spaces text is.world is.comes.begins.names.reads))
    is.comes.run
