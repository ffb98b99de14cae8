-- First moves are shared: by the machine and on a seat, moves after others go on from where those end.
use Rattle.std.proofs.Common.{Bool, ◌≡◌, ℕ, List, [], ◌∷◌, ◌++◌, refl, sym, ap, ◌∙◌, append_assoc}
use Rattle.cm_filter.specs.declared.kind.CallKind.{CallKind}
use Rattle.model_cred.specs.Call.{Event}
use Rattle.model_cred.specs.Process.{State, process_at}
use Rattle.model_cred.specs.Right.{Right}
use Rattle.model_cred.specs.World.{World}
use Rattle.model_plans.specs.Move.{Seat, Setting, Move, call_of}
use Rattle.model_plans.specs.PlanRun.{PlanRun, move_made, moves_made}
use Rattle.model_plans.specs.Walk.{event_of, after, after_moves, events_of}
use Rattle.model_plans.specs.Shortcuts.{then_made, FirstMovesAreShared}

pub after_append : (q : Setting) (seat : Seat) (moves more : List Move) → after_moves q seat (moves ++ more) ≡ after_moves q (after_moves q seat moves) more
after_append q seat [] more = refl
after_append q seat (move ∷ moves) more = after_append q (after q seat move) moves more

events_append : (q : Setting) (pid : ℕ) (seat : Seat) (moves more : List Move)
    → events_of q pid seat (moves ++ more) ≡ events_of q pid seat moves ++ events_of q pid (after_moves q seat moves) more
events_append q pid seat [] more = refl
events_append q pid seat (move ∷ moves) more =
    let here : List Event = event_of q pid seat (call_of q seat move) in
    ap (λ es. here ++ es) (events_append q pid (after q seat move) moves more)
    ∙ sym (append_assoc here (events_of q pid (after q seat move) moves) (events_of q pid (after_moves q (after q seat move) moves) more))

run_append : (permitted : CallKind → Bool) (w : World) (s : State) (right : Right) (pid : ℕ) (moves more : List Move)
    → moves_made permitted w s right pid (moves ++ more) ≡ then_made permitted w right pid (moves_made permitted w s right pid moves) more
run_append permitted w s right pid [] more = refl
run_append permitted w s right pid (move ∷ moves) more =
    let one : PlanRun = move_made permitted w s right pid (process_at s.processes pid) move in
    let two : PlanRun = moves_made permitted w one.state right pid moves in
    let three : PlanRun = moves_made permitted w two.state right pid more in
    ap (λ (made : PlanRun). record { events = one.events ++ made.events; state = made.state }) (run_append permitted w one.state right pid moves more)
    ∙ ap (λ (es : List Event). record { events = es; state = three.state }) (sym (append_assoc one.events two.events three.events))

pub first_moves_are_shared : FirstMovesAreShared
first_moves_are_shared = record { run = run_append; seat = after_append; events = events_append }
