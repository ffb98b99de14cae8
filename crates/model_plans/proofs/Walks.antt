-- The walk on a seat is the machine's run.
use Rattle.std.proofs.Common.{Bool, ◌≡◌, ℕ, true, List, [], ◌∷◌, ◌++◌, Option, None, Some}
use Rattle.std.proofs.Common.{refl, sym, ap, ◌∙◌, subst, arith}
use Rattle.cm_filter.specs.declared.kind.CallKind.{CallKind}
use Rattle.std.proofs.lemmas.Bool.{and_parts, cond-false, not-true}
use Rattle.cm_filter.specs.Filters.{excludes, permits}
use Rattle.model_cred.proofs.Lookups.{pid_of_found, at_put_same}
use Rattle.model_cred.specs.Call.{Call, Event}
use Rattle.model_cred.specs.Call.{Fork, CloneUser, Unshare, WriteUidMap, WriteGidMap, WriteSetgroups}
use Rattle.model_cred.specs.Call.{Exit, Install, kind_of}
use Rattle.model_cred.specs.Process.{Process, State, process_at, put_process}
use Rattle.model_cred.specs.Right.{Right}
use Rattle.model_cred.specs.World.{World}
use Rattle.model_run.specs.Ruling.{Ruling, own, permitted_ruling, excluded_ruling, free_pid, reply_to}
use Rattle.model_laws.proofs.Refusals.{put_same}
use Rattle.model_plans.specs.Move.{Seat, seat_of, Setting, Move, call_of}
use Rattle.model_plans.specs.PlanRun.{PlanRun, setting_in, call_made, move_made, moves_made, nothing_made}
use Rattle.model_plans.specs.Walk.{reply_at, seat_after, event_of, after_moves, events_of}
use Rattle.model_plans.specs.Changes.{changes_caller_alone, moved, with_seat, walked_run, WalkIsRun}
use Rattle.model_plans.specs.Shortcuts.{then_made}
use Rattle.model_plans.proofs.Calls.{call_plain}

-- ---- one process in the place of another
put_twice : (one two : Process) (processes : List Process) → one.pid ≡ two.pid
    → put_process two (put_process one processes) ≡ put_process two processes
put_twice one two [] same = refl
put_twice one two (q ∷ processes) same = grind (arith, same, put_twice one two processes same)

-- the state with the process where it stands is the state
pub seated_same : (s : State) (pid : ℕ) (p : Process) → process_at s.processes pid ≡ Some p → with_seat s p (seat_of p) ≡ s
seated_same s pid p lives =
    ap (λ (ps : List Process). record s { processes = ps }) (put_same s.processes pid p (pid_of_found s.processes pid p lives) lives)

-- at another seat it is found by its pid
pub found_seated : (s : State) (pid : ℕ) (p : Process) (seat : Seat) → process_at s.processes pid ≡ Some p
    → process_at (with_seat s p seat).processes pid ≡ Some (moved p seat)
found_seated s pid p seat lives =
    let named : p.pid ≡ pid = pid_of_found s.processes pid p lives in
    subst (λ (n : ℕ). process_at (put_process (moved p seat) s.processes) n ≡ Some (moved p seat)) named
    (at_put_same (moved p seat) p s.processes (ap (process_at s.processes) named ∙ lives))

-- the last seat counts
pub seated_twice : (s : State) (p : Process) (one two : Seat) → with_seat (with_seat s p one) (moved p one) two ≡ with_seat s p two
seated_twice s p one two =
    ap (λ (ps : List Process). record s { processes = ps }) (put_twice (moved p one) (moved p two) s.processes refl)

-- ---- the own step of a call that changes its caller alone
permitted_alone : (w : World) (s : State) (p : Process) (call : Call) (n : ℕ) → changes_caller_alone call ≡ true
    → permitted_ruling w s p call n ≡ record {
      res = (reply_to w s p call).res;
      state = with_seat s p (record { space = (reply_to w s p call).space; cred = (reply_to w s p call).cred });
    }
permitted_alone w s p Fork n alone = absurd (cc)
permitted_alone w s p CloneUser n alone = absurd (cc)
permitted_alone w s p Unshare n alone = absurd (cc)
permitted_alone w s p (WriteUidMap target given) n alone = absurd (cc)
permitted_alone w s p (WriteGidMap target given) n alone = absurd (cc)
permitted_alone w s p (WriteSetgroups target deny) n alone = absurd (cc)
permitted_alone w s p Exit n alone = absurd (cc)
permitted_alone w s p (Install more) n alone = absurd (cc)
permitted_alone w s p _ n alone = refl

-- a call of a process that changes it alone, and that its filter permits
abbrev pub IsOwn : Process → Call → Type 0
IsOwn p call = (changes_caller_alone call ≡ true) × (permits p.filter (kind_of call) ≡ true)

pub own_alone : (w : World) (s : State) (p : Process) (call : Call) → IsOwn p call
    → own w s p call ≡ record {
      res = (reply_to w s p call).res;
      state = with_seat s p (record { space = (reply_to w s p call).space; cred = (reply_to w s p call).cred });
    }
own_alone w s p call is =
    cond-false (excludes p.filter (kind_of call)) (excluded_ruling s) (permitted_ruling w s p call (free_pid s))
    (not-true (excludes p.filter (kind_of call)) is.1)
    ∙ permitted_alone w s p call (free_pid s) is.0

-- ---- moves
-- an optional call that changes its caller alone, and more moves, of which this is known already
walk_call : (permitted : CallKind → Bool) (w : World) (s : State) (right : Right) (pid : ℕ) (p : Process) (moves : List Move) (o : Option Call)
    → process_at s.processes pid ≡ Some p → ((call : Call) → o ≡ Some call → IsOwn p call)
    → ((t : State) (r : Process) → process_at t.processes pid ≡ Some r
    → moves_made permitted w t right pid moves ≡ walked_run (setting_in permitted w t right r) pid t r moves)
    → then_made permitted w right pid (call_made w s pid p o) moves
    ≡ record {
      events = event_of (setting_in permitted w s right p) pid (seat_of p) o
          ++ events_of (setting_in permitted w s right p) pid (seat_after (setting_in permitted w s right p) (seat_of p) o) moves;
      state = with_seat s p
          (after_moves (setting_in permitted w s right p) (seat_after (setting_in permitted w s right p) (seat_of p) o) moves);
    }
walk_call permitted w s right pid p moves None lives alone rest = rest s p lives
walk_call permitted w s right pid p moves (Some call) lives alone rest =
    let q : Setting = setting_in permitted w s right p in
    let seat : Seat = seat_after q (seat_of p) (Some call) in
    let event : Event = record { pid = pid; call = call; res = (reply_at q (seat_of p) call).res } in
    ap (λ (r : Ruling). then_made permitted w right pid (record { events = record { pid = pid; call = call; res = r.res } ∷ []; state = r.state }) moves)
    (own_alone w s p call (alone call refl))
    ∙ ap (λ (made : PlanRun). record { events = event ∷ made.events; state = made.state })
    (rest (with_seat s p seat) (moved p seat) (found_seated s pid p seat lives))
    ∙ ap (λ (t : State). record { events = event ∷ events_of q pid seat moves; state = t }) (seated_twice s p seat (after_moves q seat moves))

-- the call of a move is such a call
pub call_own : (permitted : CallKind → Bool) (w : World) (s : State) (right : Right) (p : Process) (move : Move) (call : Call)
    → call_of (setting_in permitted w s right p) (seat_of p) move ≡ Some call → IsOwn p call
call_own permitted w s right p move call is =
    let plain = call_plain (setting_in permitted w s right p) (seat_of p) move call is in
    (plain.0, (and_parts (permitted (kind_of call)) (permits p.filter (kind_of call)) plain.1).1)

pub walk_run : (permitted : CallKind → Bool) (w : World) (s : State) (right : Right) (pid : ℕ) (p : Process) (moves : List Move)
    → process_at s.processes pid ≡ Some p
    → moves_made permitted w s right pid moves ≡ walked_run (setting_in permitted w s right p) pid s p moves
walk_run permitted w s right pid p [] lives = ap (λ (t : State). record { events = []; state = t }) (sym (seated_same s pid p lives))
walk_run permitted w s right pid p (move ∷ moves) lives =
    ap (λ (o : Option Process). then_made permitted w right pid (move_made permitted w s right pid o move) moves) lives
    ∙ walk_call permitted w s right pid p moves (call_of (setting_in permitted w s right p) (seat_of p) move) lives
    (call_own permitted w s right p move)
    (λ t r there. walk_run permitted w t right pid r moves there)

pub walk_is_run : WalkIsRun
unfolding WalkIsRun
walk_is_run = walk_run

-- who isn't alive makes nothing
pub dead_run : (permitted : CallKind → Bool) (w : World) (s : State) (right : Right) (pid : ℕ) (moves : List Move)
    → process_at s.processes pid ≡ None → moves_made permitted w s right pid moves ≡ nothing_made s
dead_run permitted w s right pid [] dead = refl
dead_run permitted w s right pid (move ∷ moves) dead =
    ap (λ (o : Option Process). then_made permitted w right pid (move_made permitted w s right pid o move) moves) dead
    ∙ dead_run permitted w s right pid moves dead
