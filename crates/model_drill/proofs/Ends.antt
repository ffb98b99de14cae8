-- What each state of the drill keeps.
use Rattle.std.proofs.Common.{◌≡◌, ℕ, ◌≤◌, true, false, List, [], ◌∷◌, length, map, filter, get_or, Some, is_some}
use Rattle.std.proofs.Common.{sym, ap, ◌∙◌, inl, inr, arith}
use Rattle.std.proofs.lemmas.Bool.{cases_lt, cond_both}
use Rattle.std.proofs.lemmas.List.{length-map}
use Rattle.std.proofs.lemmas.List.Elements.{All-get_or}
use Rattle.std.proofs.lemmas.List.Sums.{length-filter, count_by-le-length}
use Rattle.model_cred.proofs.Finds.{dead_below, each_found}
use Rattle.model_cred.proofs.Orders.{ascends_forth}
use Rattle.model_cred.specs.Process.{Ascends, Process, State, is_alive, process_at}
use Rattle.model_drill.proofs.Calls.{IsReady}
use Rattle.model_drill.proofs.Turns.{ready_from, start_ready}
use Rattle.model_drill.specs.DrillWorld.{first_process}
use Rattle.model_drill.specs.Drill.{drill_start, first_live}
use Rattle.model_drill.specs.Laws.{DrillStateKeeps, IsDrillState}
use Rattle.model_run.specs.Family.{family, reaches}

-- no pid below that of the first process is alive
first_is_least : (processes : List Process) (pid : ℕ) → Ascends processes → is_alive processes pid ≡ true
    → (get_or processes 0 first_process).pid ≤ pid
first_is_least [] pid ascends alive = absurd (cc)
first_is_least (p ∷ processes) pid ascends alive =
    elim (cases_lt pid p.pid) [
      | inl below ↦
          let dead : is_alive (p ∷ processes) pid ≡ false
          = dead_below p.pid pid (p ∷ processes) (omega arith, (ascends_forth (p ∷ processes) ascends).1) below in
          absurd (let never : true ≡ false = sym alive ∙ dead in cc)
      | inr above ↦ above
    ]

-- a family has no more members than processes live
family_few : (s : State) (root : ℕ) → length (family s root) ≤ length s.processes
family_few s root =
    let pids : List ℕ = map (λ p. p.pid) s.processes in
    let count : length pids ≡ length s.processes = length-map s.processes (λ p. p.pid) in
    let kept : length (filter (reaches s root) pids) ≤ length pids
    = rw (length-filter (reaches s root) pids) (count_by-le-length (reaches s root) pids) in
    cond_both (is_alive s.processes root) (filter (reaches s root) pids) [] (λ (members : List ℕ). length members ≤ length s.processes)
    (λ _. omega (arith, kept, count)) (λ _. omega arith)

ready_keeps : (s : State) → IsReady s → IsDrillState s
ready_keeps s ready =
    let some = ready.some_live in
    let live = ready.few_live in
    let members : length (family s (first_live s)) ≤ length s.processes = family_few s (first_live s) in
    record {
      keeps = ready.keeps;
      pids = ready.pids;
      unfiltered = ready.unfiltered;
      some_live = some;
      few_live = live;
      few_spaces = ready.few_spaces;
      root_lives = ap is_some (All-get_or (λ p. process_at s.processes p.pid ≡ Some p) s.processes 0 first_process (omega (arith, some))
          (each_found s.processes ready.keeps.ascends));
      root_is_least = λ pid alive. first_is_least s.processes pid ready.keeps.ascends alive;
      family_fits = omega (arith, members, live);
    }

-- what the proofs ask of a state of the drill
pub ready_of : (s : State) → IsDrillState s → IsReady s
ready_of s is = record {
  keeps = is.keeps;
  pids = is.pids;
  unfiltered = is.unfiltered;
  some_live = is.some_live;
  few_live = is.few_live;
  few_spaces = is.few_spaces;
}

pub drill_state_keeps : DrillStateKeeps
unfolding DrillStateKeeps
drill_state_keeps n count = ready_keeps _ (ready_from count (drill_start n) start_ready)
