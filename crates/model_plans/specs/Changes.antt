-- What plans change: the space and the credential of the one who moves, and nothing else.
use Rattle.std.specs.Prelude.{◌≡◌, ◌≢◌, ℕ, Bool, true, false, List, ◌∷◌, Some, All}
use Rattle.cm_filter.specs.declared.kind.CallKind.{CallKind}
use Rattle.model_cred.specs.Call.{Call, Fork, CloneUser, Unshare, WriteUidMap, WriteGidMap, WriteSetgroups, Exit}
use Rattle.model_cred.specs.Call.{Install}
use Rattle.model_cred.specs.Call.{kind_of}
use Rattle.model_cred.specs.Process.{Process, State, process_at, put_process}
use Rattle.model_cred.specs.Right.{Right}
use Rattle.model_cred.specs.World.{World}
use Rattle.model_run.specs.Family.{family}
use Rattle.model_run.specs.Later.{Later}
use Rattle.model_plans.specs.Move.{Seat, seat_of, Setting, Move, Raise, call_of}
use Rattle.model_plans.specs.Plan.{plans, first_choices}
use Rattle.model_plans.specs.PlanRun.{PlanRun, setting_in, moves_made, plan_run}
use Rattle.model_plans.specs.Walk.{after_moves, events_of}

-- the call makes no process and no space, ends no process, writes to no space, and installs no filter
abbrev pub changes_caller_alone : Call → Bool
changes_caller_alone Fork = false
changes_caller_alone CloneUser = false
changes_caller_alone Unshare = false
changes_caller_alone (WriteUidMap target given) = false
changes_caller_alone (WriteGidMap target given) = false
changes_caller_alone (WriteSetgroups target deny) = false
changes_caller_alone Exit = false
changes_caller_alone (Install more) = false
changes_caller_alone _ = true

-- The call of a move changes its caller alone, and is of a kind that is permitted.
unfoldable pub CallsOfMoves : Type 0
CallsOfMoves = (q : Setting) (seat : Seat) (move : Move) (call : Call) → call_of q seat move ≡ Some call
    → (changes_caller_alone call ≡ true) × (q.permitted (kind_of call) ≡ true)

-- the process at another seat
abbrev pub moved : Process → Seat → Process
moved p seat = record p { space = seat.space; cred = seat.cred }

-- the state with the process at another seat
abbrev pub with_seat : State → Process → Seat → State
with_seat s p seat = record s { processes = put_process (moved p seat) s.processes }

-- what the walk on its seat says of moves of a process
abbrev pub walked_run : Setting → ℕ → State → Process → List Move → PlanRun
walked_run q pid s p moves = record {
  events = events_of q pid (seat_of p) moves;
  state = with_seat s p (after_moves q (seat_of p) moves);
}

-- The walk on a seat is the machine's run: it has its events, and the state after it is the one before, with the member
-- at the seat where the walk ends. So the spaces stay, and so do all other processes.
unfoldable pub WalkIsRun : Type 0
WalkIsRun =
    (permitted : CallKind → Bool) (w : World) (s : State) (right : Right) (pid : ℕ) (p : Process) (moves : List Move)
    → process_at s.processes pid ≡ Some p
    → moves_made permitted w s right pid moves ≡ walked_run (setting_in permitted w s right p) pid s p moves

-- what a run of moves leaves of all but the one who moves
pub record Leaves (s : State) (pid : ℕ) (after : State) : Type 0 where
  pub spaces : after.spaces ≡ s.spaces
  pub others : (other : ℕ) → other ≢ pid → process_at after.processes other ≡ process_at s.processes other
  pub families : (root : ℕ) → family after root ≡ family s root

-- The spaces, all other processes, and all families are as before, also where the one who is to move isn't alive.
unfoldable pub MovesLeaveOthers : Type 0
MovesLeaveOthers = (permitted : CallKind → Bool) (w : World) (s : State) (right : Right) (pid : ℕ) (moves : List Move)
    → Leaves s pid (moves_made permitted w s right pid moves).state

-- What is made is a later run of the members by calls of the one process alone. The members are the same after it.
pub record IsLater (permitted : CallKind → Bool) (w : World) (s : State) (members : List ℕ) (pid : ℕ) (made : PlanRun)
    : Type 0 where
  pub later : Later permitted w s members made.events made.state members
  pub callers : All (λ e. e.pid ≡ pid) made.events

-- The run of each plan of the list is such a run of the one who moves.
unfoldable pub RunsAreLater : Type 0
RunsAreLater = (permitted : CallKind → Bool) (w : World) (s : State) (members : List ℕ) (right : Right)
    → All (λ plan. IsLater permitted w s members plan.pid (plan_run permitted w s right plan)) (plans w s members right)

-- The first raise and a first choice leave the member in its space: so the spaces that it may join next are those other
-- than its own at the start.
unfoldable pub FirstMovesStay : Type 0
FirstMovesStay = (q : Setting) (seat : Seat)
    → All (λ first. (after_moves q seat (Raise ∷ first)).space ≡ seat.space) first_choices
