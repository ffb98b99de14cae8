-- What a run of moves leaves of all but the one who moves.
use Rattle.std.proofs.Common.{◌≡◌, ◌≢◌, ℕ, zero, suc, ◌==◌, ◌||◌, Bool, List, [], ◌∷◌, length, map, filter}
use Rattle.std.proofs.Common.{Option, None, Some, if◌then◌else◌, refl, sym, ap, ◌∙◌, inl, inr, subst}
use Rattle.std.specs.Prelude.{is_some}
use Rattle.std.proofs.lemmas.Bool.{cases_Bool, cases_eq, cond-true, cond-false, eqb-true}
use Rattle.std.proofs.lemmas.List.{length-map}
use Rattle.cm_filter.specs.declared.kind.CallKind.{CallKind}
use Rattle.model_cred.proofs.Lookups.{pid_of_found, at_put_other}
use Rattle.model_cred.specs.Process.{Process, State, process_at, put_process, is_alive}
use Rattle.model_cred.specs.Right.{Right}
use Rattle.model_cred.specs.World.{World}
use Rattle.model_run.specs.Family.{family, forebear_in, forebear_of, reaches, reaches_within}
use Rattle.model_plans.specs.Move.{Seat, seat_of, Move}
use Rattle.model_plans.specs.PlanRun.{PlanRun, setting_in, moves_made}
use Rattle.model_plans.specs.Walk.{after_moves}
use Rattle.model_plans.specs.Changes.{moved, with_seat, Leaves, MovesLeaveOthers}
use Rattle.model_plans.proofs.Walks.{found_seated, walk_run, dead_run}

-- ---- the processes with one at another seat
-- the others are found as before
pub other_seated : (s : State) (pid : ℕ) (p : Process) (seat : Seat) (other : ℕ) → process_at s.processes pid ≡ Some p → other ≢ pid
    → process_at (with_seat s p seat).processes other ≡ process_at s.processes other
other_seated s pid p seat other lives apart =
    at_put_other (moved p seat) s.processes other (λ same. apart (same ∙ pid_of_found s.processes pid p lives))

-- what is the same of the one whose seat is another and of all others is the same of what each pid finds
seated_alike : {A : Type 0} (part : Option Process → A) (s : State) (pid : ℕ) (p : Process) (seat : Seat) (n : ℕ)
    → process_at s.processes pid ≡ Some p → part (Some (moved p seat)) ≡ part (Some p)
    → part (process_at (with_seat s p seat).processes n) ≡ part (process_at s.processes n)
seated_alike part s pid p seat n lives same =
    elim (cases_eq n pid) [
      | inl it ↦
          ap (λ (m : ℕ). part (process_at (with_seat s p seat).processes m)) it
          ∙ ap part (found_seated s pid p seat lives)
          ∙ same
          ∙ sym (ap part lives)
          ∙ sym (ap (λ (m : ℕ). part (process_at s.processes m)) it)
      | inr other ↦ ap part (other_seated s pid p seat n lives other)
    ]

-- the pids are the same
put_pids : (new : Process) (processes : List Process) → map (λ p. p.pid) (put_process new processes) ≡ map (λ p. p.pid) processes
put_pids new [] = refl
put_pids new (q ∷ processes) =
    elim (cases_Bool (q.pid == new.pid)) [
      | inl same ↦
          ap (map (λ p. p.pid)) (cond-true (q.pid == new.pid) (new ∷ processes) (q ∷ put_process new processes) same)
          ∙ ap (λ (n : ℕ). n ∷ map (λ p. p.pid) processes) (sym (eqb-true q.pid new.pid same))
      | inr other ↦
          ap (map (λ p. p.pid)) (cond-false (q.pid == new.pid) (new ∷ processes) (q ∷ put_process new processes) other)
          ∙ ap (λ (ns : List ℕ). q.pid ∷ ns) (put_pids new processes)
    ]

pub put_length : (new : Process) (processes : List Process) → length (put_process new processes) ≡ length processes
put_length new processes =
    sym (length-map (put_process new processes) (λ p. p.pid)) ∙ ap length (put_pids new processes) ∙ length-map processes (λ p. p.pid)

-- ---- families
-- chains reach the root alike where all have their forebears
reach_alike : (steps : ℕ) (s t : State) (root : ℕ) (o : Option ℕ) → ((n : ℕ) → forebear_of s n ≡ forebear_of t n)
    → reaches_within steps s root o ≡ reaches_within steps t root o
reach_alike steps s t root None alike = refl
reach_alike zero s t root (Some pid) alike = refl
reach_alike (suc steps) s t root (Some pid) alike =
    ap (λ (b : Bool). pid == root || b)
    (ap (reaches_within steps s root) (alike pid) ∙ reach_alike steps s t root (forebear_of t pid) alike)

filter_alike : {A : Type 0} (f g : A → Bool) (xs : List A) → ((x : A) → f x ≡ g x) → filter f xs ≡ filter g xs
filter_alike f g xs alike = ap (λ h. filter h xs) (λ i x. alike x i)

pub family_seated : (s : State) (pid : ℕ) (p : Process) (seat : Seat) (root : ℕ) → process_at s.processes pid ≡ Some p
    → family (with_seat s p seat) root ≡ family s root
family_seated s pid p seat root lives =
    let t : State = with_seat s p seat in
    let fore : (n : ℕ) → forebear_of t n ≡ forebear_of s n = λ n. seated_alike forebear_in s pid p seat n lives refl in
    let reach : (n : ℕ) → reaches t root n ≡ reaches s root n
    = λ n. ap (λ (k : ℕ). reaches_within k t root (Some n)) (put_length (moved p seat) s.processes)
    ∙ reach_alike (length s.processes) t s root (Some n) fore in
    ap (λ (b : Bool). if b then filter (reaches t root) (map (λ r. r.pid) t.processes) else []) (seated_alike is_some s pid p seat root lives refl)
    ∙ ap (λ (members : List ℕ). if is_alive s.processes root then members else [])
    (filter_alike (reaches t root) (reaches s root) (map (λ r. r.pid) t.processes) reach
    ∙ ap (filter (reaches s root)) (put_pids (moved p seat) s.processes))

-- ---- runs of moves
leaves_seated : (s : State) (pid : ℕ) (p : Process) (seat : Seat) → process_at s.processes pid ≡ Some p → Leaves s pid (with_seat s p seat)
leaves_seated s pid p seat lives = record {
  spaces = refl;
  others = λ other apart. other_seated s pid p seat other lives apart;
  families = λ root. family_seated s pid p seat root lives;
}

leaves_all : (s : State) (pid : ℕ) → Leaves s pid s
leaves_all s pid = record { spaces = refl; others = λ other apart. refl; families = λ root. refl }

leaves_run : (permitted : CallKind → Bool) (w : World) (s : State) (right : Right) (pid : ℕ) (moves : List Move) (o : Option Process)
    → process_at s.processes pid ≡ o → Leaves s pid (moves_made permitted w s right pid moves).state
leaves_run permitted w s right pid moves None dead =
    subst (λ (made : PlanRun). Leaves s pid made.state) (sym (dead_run permitted w s right pid moves dead)) (leaves_all s pid)
leaves_run permitted w s right pid moves (Some p) lives =
    subst (λ (made : PlanRun). Leaves s pid made.state) (sym (walk_run permitted w s right pid p moves lives))
    (leaves_seated s pid p (after_moves (setting_in permitted w s right p) (seat_of p) moves) lives)

pub moves_leave_others : MovesLeaveOthers
unfolding MovesLeaveOthers
moves_leave_others permitted w s right pid moves = leaves_run permitted w s right pid moves (process_at s.processes pid) refl
