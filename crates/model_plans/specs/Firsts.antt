-- What is found, and how: by the machine's runs, or on seats.
use Rattle.std.specs.Prelude.{Bool, ◌≡◌, ◌↔◌, ◌≤◌, ◌<◌, ℕ, false, IsTrue, List, [], ◌∷◌, ◌++◌, None, Some, All}
use Rattle.std.specs.Prelude.{if◌then◌else◌}
use Rattle.cm_filter.specs.declared.kind.CallKind.{CallKind}
use Rattle.model_cred.specs.Process.{Process, State, Ascends, process_at}
use Rattle.model_cred.specs.Right.{Right}
use Rattle.model_cred.specs.World.{World}
use Rattle.model_run.specs.Family.{family}
use Rattle.model_run.specs.Holds.{process_holds}
use Rattle.model_run.specs.Later.{is_member}
use Rattle.model_plans.specs.Move.{Seat, seat_of, Move}
use Rattle.model_plans.specs.Plan.{Plan, plans}
use Rattle.model_plans.specs.PlanRun.{setting_in, moves_made, plan_run, holder, Found, first_found}
use Rattle.model_plans.specs.Walk.{after_moves, seat_holds, walked}
use Rattle.model_plans.specs.Changes.{Leaves, IsLater}

-- no member holds the right
abbrev pub NoneHolds : State → List ℕ → Right → Type 0
NoneHolds s members right = (pid : ℕ) → IsTrue (is_member members pid) → process_holds s pid right ≡ false

-- There is no holder exactly where no member holds the right.
unfoldable pub NoHolder : Type 0
NoHolder = (s : State) (members : List ℕ) (right : Right)
    → (holder s members right ≡ None) ↔ NoneHolds s members right

-- the pids ascend, each once
abbrev pub PidsAscend : List ℕ → Type 0
PidsAscend [] = Unit {0}
PidsAscend (pid ∷ pids) = All (λ later. pid < later) pids × PidsAscend pids

-- The pids of a family ascend.
unfoldable pub FamilyAscends : Type 0
FamilyAscends = (s : State) (root : ℕ) → Ascends s.processes → PidsAscend (family s root)

-- the pid is that of a member who holds the right, and no lesser member does
pub record IsLeastHolder (s : State) (members : List ℕ) (right : Right) (pid : ℕ) : Type 0 where
  pub member : IsTrue (is_member members pid)
  pub holds : IsTrue (process_holds s pid right)
  pub least : (other : ℕ) → IsTrue (is_member members other) → IsTrue (process_holds s other right) → pid ≤ other

-- Where members ascend, the holder is the least member that holds the right.
unfoldable pub HolderIsLeast : Type 0
HolderIsLeast = (s : State) (members : List ℕ) (right : Right) (pid : ℕ) → PidsAscend members
    → (holder s members right ≡ Some pid) ↔ IsLeastHolder s members right pid

-- after the run of each of the plans no member holds the right
abbrev pub NoneHoldsAfter : (CallKind → Bool) → World → State → List ℕ → Right → List Plan → Type 0
NoneHoldsAfter permitted w s members right plans =
    All (λ plan. NoneHolds (plan_run permitted w s right plan).state members right) plans

-- Nothing is found exactly where after the run of each plan no member holds the right.
unfoldable pub NothingFound : Type 0
NothingFound = (permitted : CallKind → Bool) (w : World) (s : State) (members : List ℕ) (right : Right)
    → (first_found permitted w s members right ≡ None)
    ↔ NoneHoldsAfter permitted w s members right (plans w s members right)

-- what is found is the run of the first plan after which a member holds the right, and that member
pub record IsFirst (permitted : CallKind → Bool) (w : World) (s : State) (members : List ℕ) (right : Right) (found : Found)
    : Type 0 where
  pub before : List Plan
  pub plan : Plan
  pub after : List Plan
  pub listed : plans w s members right ≡ before ++ plan ∷ after
  pub earlier : NoneHoldsAfter permitted w s members right before
  pub run : found.run ≡ (plan_run permitted w s right plan).events
  pub holds : holder (plan_run permitted w s right plan).state members right ≡ Some found.holder

-- What is found is of the first such plan.
unfoldable pub FoundIsFirst : Type 0
FoundIsFirst = (permitted : CallKind → Bool) (w : World) (s : State) (members : List ℕ) (right : Right) (found : Found)
    → (first_found permitted w s members right ≡ Some found) ↔ IsFirst permitted w s members right found

-- What is found is a later run of the members, by calls of one of them. After it the members are the same, all but the
-- one who moved is as it was, and the holder, a member, holds the right.
pub record EndsHolding (permitted : CallKind → Bool) (w : World) (s : State) (members : List ℕ) (right : Right) (found : Found)
    : Type 0 where
  pub mover : ℕ
  pub state : State
  pub later : IsLater permitted w s members mover (record { events = found.run; state = state })
  pub leaves : Leaves s mover state
  pub member : IsTrue (is_member members found.holder)
  pub holds : IsTrue (process_holds state found.holder right)

-- What is found is such a run.
unfoldable pub FoundIsLater : Type 0
FoundIsLater = (permitted : CallKind → Bool) (w : World) (s : State) (members : List ℕ) (right : Right) (found : Found)
    → first_found permitted w s members right ≡ Some found → EndsHolding permitted w s members right found

-- the seat of a process after moves
abbrev pub seat_then : (CallKind → Bool) → World → State → Right → Process → List Move → Seat
seat_then permitted w s right p moves = after_moves (setting_in permitted w s right p) (seat_of p) moves

-- Where no member held the right, one holds it after moves exactly where the one who moved does, at the seat where it
-- then is.
unfoldable pub MoverDecides : Type 0
MoverDecides =
    (permitted : CallKind → Bool) (w : World) (s : State) (members : List ℕ) (right : Right) (pid : ℕ) (p : Process)
    (moves : List Move)
    → process_at s.processes pid ≡ Some p → IsTrue (is_member members pid) → holder s members right ≡ None
    → holder (moves_made permitted w s right pid moves).state members right
    ≡ (if seat_holds (setting_in permitted w s right p) (seat_then permitted w s right p moves)
    then Some pid else None)

-- The walk on seats, by members, first, middle and last choices, finds what the list of plans and the machine's runs
-- do.
unfoldable pub WalkFindsTheSame : Type 0
WalkFindsTheSame = (permitted : CallKind → Bool) (w : World) (s : State) (members : List ℕ) (right : Right)
    → first_found permitted w s members right ≡ walked permitted w s members right
