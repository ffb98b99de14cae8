-- What a walk may share, and what it may leave out.
use Rattle.std.specs.Prelude.{Bool, ◌≡◌, ℕ, IsTrue, List, ◌∷◌, ◌++◌, Some, option_map, Any}
use Rattle.cm_filter.specs.declared.kind.CallKind.{CallKind}
use Rattle.model_cred.specs.Process.{Process, State, process_at}
use Rattle.model_cred.specs.Right.{Right}
use Rattle.model_cred.specs.World.{World}
use Rattle.model_run.specs.Later.{is_member}
use Rattle.model_run.specs.Own.{filter_of}
use Rattle.model_plans.specs.Move.{Seat, seat_of, Setting, Move, Raise}
use Rattle.model_plans.specs.Plan.{Choice, then_raise}
use Rattle.model_plans.specs.PlanRun.{PlanRun, moves_made, first_found}
use Rattle.model_plans.specs.Walk.{after_moves, events_of, middle_found, moves_from, found_among}

-- what is made, and what more moves make after it
abbrev pub then_made : (CallKind → Bool) → World → Right → ℕ → PlanRun → List Move → PlanRun
then_made permitted w right pid made moves =
    let more : PlanRun = moves_made permitted w made.state right pid moves in
    record { events = made.events ++ more.events; state = more.state }

-- First moves are shared: moves after others go on from where those end, by the machine and on a seat.
pub record FirstMovesAreShared : Type 0 where
  pub run : (permitted : CallKind → Bool) (w : World) (s : State) (right : Right) (pid : ℕ) (moves more : List Move)
      → moves_made permitted w s right pid (moves ++ more)
      ≡ then_made permitted w right pid (moves_made permitted w s right pid moves) more
  pub seat : (q : Setting) (seat : Seat) (moves more : List Move)
      → after_moves q seat (moves ++ more) ≡ after_moves q (after_moves q seat moves) more
  pub events : (q : Setting) (pid : ℕ) (seat : Seat) (moves more : List Move)
      → events_of q pid seat (moves ++ more)
      ≡ events_of q pid seat moves ++ events_of q pid (after_moves q seat moves) more

-- A first choice that leaves the seat where an earlier one left it may be skipped.
unfoldable pub FirstChoicesTriedBefore : Type 0
FirstChoicesTriedBefore = (q : Setting) (seat : Seat) (middles earlier later : List Choice) (first : Choice)
    → Any (λ other. after_moves q seat (Raise ∷ other) ≡ after_moves q seat (Raise ∷ first)) earlier
    → moves_from q seat middles (earlier ++ first ∷ later) ≡ moves_from q seat middles (earlier ++ later)

-- A middle choice that leaves the seat, once the effective set is raised, where an earlier one left it may be skipped.
unfoldable pub MiddleChoicesTriedBefore : Type 0
MiddleChoicesTriedBefore = (q : Setting) (seat : Seat) (earlier later : List Choice) (middle : Choice)
    → Any (λ other. after_moves q seat (then_raise other) ≡ after_moves q seat (then_raise middle)) earlier
    → middle_found q seat (earlier ++ middle ∷ later) ≡ middle_found q seat (earlier ++ later)

-- the two processes live at one seat, under one filter
pub record AreAlike (s : State) (pid other : ℕ) : Type 0 where
  pub one : Process
  pub two : Process
  pub first_lives : process_at s.processes pid ≡ Some one
  pub second_lives : process_at s.processes other ≡ Some two
  pub seat : seat_of one ≡ seat_of two
  pub filter : one.filter ≡ two.filter

-- A member that is like an earlier one may be skipped.
unfoldable pub MembersTriedBefore : Type 0
MembersTriedBefore =
    (permitted : CallKind → Bool) (w : World) (s : State) (right : Right) (earlier later : List ℕ) (pid : ℕ)
    → Any (λ other. AreAlike s other pid) earlier
    → found_among permitted w s right (earlier ++ pid ∷ later) ≡ found_among permitted w s right (earlier ++ later)

-- the members are at the same seats in both states, if they live, under the same filters (equal numbers)
abbrev pub AreSeatedAlike : State → State → List ℕ → Type 0
AreSeatedAlike s t members = (pid : ℕ) → IsTrue (is_member members pid)
    → (option_map seat_of (process_at s.processes pid) ≡ option_map seat_of (process_at t.processes pid))
    × (filter_of s pid ≡ filter_of t pid)

-- What is found depends on the spaces and on the members' own seats and filters alone, whatever other processes hold.
unfoldable pub MembersSeatsDecide : Type 0
MembersSeatsDecide =
    (permitted : CallKind → Bool) (w : World) (s t : State) (members : List ℕ) (right : Right)
    → s.spaces ≡ t.spaces → AreSeatedAlike s t members
    → first_found permitted w s members right ≡ first_found permitted w t members right
