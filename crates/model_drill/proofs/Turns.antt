-- Each event of the drill is a step, leads to a state of the drill, and can be written as a line.
use Rattle.std.proofs.Common.{◌≡◌, ℕ, zero, suc, ◌≤◌, false, List, [], ◌∷◌, length, IsTrue, All, refl, sym, ◌∙◌, inl, inr}
use Rattle.std.proofs.Common.{arith, subst}
use Rattle.std.proofs.lemmas.List.Elements.{All-cons, All-from_recursion, All-nil}
use Rattle.cm_base.specs.declared.res.Res.{Res}
use Rattle.model_cred.proofs.Orders.{all_found, all_insert, all_put, all_without}
use Rattle.model_cred.specs.Call.{Call, Install, Event}
use Rattle.model_cred.specs.Process.{Process, State, is_pid}
use Rattle.model_cred.specs.World.{KeepsWorld}
use Rattle.model_laws.proofs.Effects.{Effect, installs, does}
use Rattle.model_laws.proofs.Keeping.{step_keeps}
use Rattle.model_laws.proofs.Owning.{own_step}
use Rattle.model_laws.specs.Runs.{StepKeeps}
use Rattle.model_drill.proofs.Callers.{HasPid, IsUnfiltered, IsCaller, caller_is}
use Rattle.model_drill.proofs.Calls.{IsFine, IsReady, row_fine}
use Rattle.model_drill.proofs.Cases.{drill_world_reads}
use Rattle.model_drill.proofs.Sizes.{Sizes, ruling_sizes}
use Rattle.model_drill.specs.DrillWorld.{drill_world, drill_world_text, first_process}
use Rattle.model_drill.specs.Draws.{drawn, number_after}
use Rattle.model_drill.specs.Drill.{Stand, asked_at, caller_drawn, drill_start, events_from, stand_after, turn}
use Rattle.model_drill.specs.Laws.{DrillIsRun, DrillWorldReads}
use Rattle.model_run.specs.Ruling.{free_pid, own}
use Rattle.model_run.specs.Step.{Run, Step}
use Rattle.model_text.proofs.Keeping.{start_keeps}
use Rattle.model_text.specs.Arguments.{arguments_of}
use Rattle.model_text.specs.Written.{InstallsFilter, IsWritable}

-- ---- the world
world_keeps : KeepsWorld drill_world
unfolding DrillWorldReads
world_keeps = start_keeps drill_world_text drill_world drill_world_reads

pub start_ready : IsReady drill_world.start
unfolding drill_world
start_ready = record {
  keeps = world_keeps.start;
  pids = All-from_recursion HasPid (first_process ∷ []) (refl, tt);
  unfiltered = All-from_recursion IsUnfiltered (first_process ∷ []) (refl, tt);
  some_live = omega arith;
  few_live = omega arith;
  few_spaces = omega arith;
}

-- ---- pids
effect_has : (before : List Process) (p : Process) (call : Call) (res : Res) (after : List Process) → HasPid p → All HasPid before
    → Effect before p call res after → All HasPid after
effect_has before p call res after is have (inl calls) =
    subst (All HasPid) (sym calls.processes)
    (all_put HasPid (record p { space = calls.space; cred = calls.cred; filter = calls.filter }) before is have)
effect_has before p call res after is have (inr (inl births)) =
    subst (All HasPid) (sym births.processes) (all_insert HasPid births.child before births.pid_is have)
effect_has before p call res after is have (inr (inr exits)) =
    subst (All HasPid) (sym exits.processes) (all_without HasPid p before (λ q f kept. kept) have)

-- ---- filters
effect_unfiltered : (before : List Process) (p : Process) (call : Call) (res : Res) (after : List Process) → installs call ≡ false → IsUnfiltered p
    → All IsUnfiltered before → Effect before p call res after → All IsUnfiltered after
effect_unfiltered before p call res after plain is are (inl calls) =
    subst (All IsUnfiltered) (sym calls.processes)
    (all_put IsUnfiltered (record p { space = calls.space; cred = calls.cred; filter = calls.filter }) before (calls.kept plain ∙ is) are)
effect_unfiltered before p call res after plain is are (inr (inl births)) =
    subst (All IsUnfiltered) (sym births.processes) (all_insert IsUnfiltered births.child before (births.filter ∙ is) are)
effect_unfiltered before p call res after plain is are (inr (inr exits)) =
    subst (All IsUnfiltered) (sym exits.processes) (all_without IsUnfiltered p before (λ q f kept. kept) are)

-- a call that installs no filter installs none that isn't one
installs_none : (call : Call) → installs call ≡ false → InstallsFilter call
installs_none (Install more) wrong = absurd (cc)
installs_none _ is = tt

-- ---- one event
-- an event that can be written, with few arguments
pub record IsBrief (e : Event) : Type 0 where
  pub can : IsWritable drill_world e
  pub few : length (arguments_of e.call) ≤ 4

-- What is known of an event, and of the state that it leads to.
pub record Turns (s : State) (e : Event) (t : State) : Type 0 where
  pub step : Step drill_world s e t
  pub ready : IsReady t
  pub brief : IsBrief e

-- the event of a call
own_turns : (s : State) (p : Process) (call : Call) → IsReady s → IsCaller s p → IsFine s p call
    → Turns s (record { pid = p.pid; call = call; res = (own drill_world s p call).res }) (own drill_world s p call).state
unfolding StepKeeps
own_turns s p call ready is fine =
    let e : Event = record { pid = p.pid; call = call; res = (own drill_world s p call).res } in
    let t : State = (own drill_world s p call).state in
    let step : Step drill_world s e t = own_step drill_world s e p is.lives fine.named refl in
    let sizes : Sizes s call t = ruling_sizes drill_world s p call (free_pid s) ready.keeps.ascends in
    let did = does drill_world s e t step in
    record {
      step = step;
      ready = record {
        keeps = step_keeps drill_world s e t world_keeps.files ready.keeps step;
        pids = effect_has s.processes did.caller call e.res t.processes
            (subst (λ (n : ℕ). IsTrue (is_pid n)) (sym did.named) is.pid) ready.pids did.effect;
        unfiltered = effect_unfiltered s.processes did.caller call e.res t.processes fine.plain
            (all_found IsUnfiltered s.processes p.pid did.caller ready.unfiltered did.lives) ready.unfiltered did.effect;
        some_live = omega (arith, sizes.fewer, fine.fewer);
        few_live = omega (arith, sizes.more, fine.more);
        few_spaces = omega (arith, sizes.spaces, fine.spaces);
      };
      brief = record {
        can = record { pid = is.pid; arguments = fine.fits; groups = fine.groups; filter = installs_none call fine.plain; result = fine.may };
        few = fine.few;
      };
    }

-- the caller that is drawn is one, and its call is fine
pub asked_is : (at : Stand) → IsReady at.state → IsCaller at.state (asked_at at).caller
unfolding asked_at
asked_is at ready =
    let some = ready.some_live in caller_is at.state (drawn at.number) ready.keeps ready.pids ready.unfiltered (omega (arith, some))

pub asked_fine : (at : Stand) → IsReady at.state → IsFine at.state (asked_at at).caller (asked_at at).call
unfolding asked_at
asked_fine at ready =
    row_fine at.state (caller_drawn at.state (drawn at.number)) ready (asked_is at ready) (drawn (number_after 1 at.number))
    (λ place. drawn (number_after place (number_after 2 at.number)))

pub turns : (at : Stand) → IsReady at.state → Turns at.state (turn at).event (turn at).after.state
unfolding turn
turns at ready = own_turns at.state (asked_at at).caller (asked_at at).call ready (asked_is at ready) (asked_fine at ready)

-- ---- all events
pub ready_from : (n : ℕ) (at : Stand) → IsReady at.state → IsReady (stand_after n at).state
unfolding stand_after
ready_from zero at ready = ready
ready_from (suc n) at ready = ready_from n (turn at).after (turns at ready).ready

run_from : (n : ℕ) (at : Stand) → IsReady at.state → Run drill_world at.state (events_from n at) (stand_after n at).state
unfolding stand_after events_from
run_from zero at ready = refl
run_from (suc n) at ready =
    ((turn at).after.state, (turns at ready).step, run_from n (turn at).after (turns at ready).ready)

pub drill_is_run : DrillIsRun
unfolding DrillIsRun
drill_is_run n = run_from n (drill_start n) start_ready

pub brief_from : (n : ℕ) (at : Stand) → IsReady at.state → All IsBrief (events_from n at)
unfolding events_from
brief_from zero at ready = All-nil IsBrief
brief_from (suc n) at ready =
    All-cons IsBrief (turn at).event (events_from n (turn at).after) (turns at ready).brief
    (brief_from n (turn at).after (turns at ready).ready)
