-- The walk: plans looked at on one seat alone. A move changes nothing but its member's space and credential, so these
-- are all that has to be kept, and plans with the same first moves share what these leave.
use Rattle.std.specs.Prelude.{ℕ, Bool, find, List, [], ◌∷◌, ◌++◌, Option, None, Some, option_map}
use Rattle.std.specs.Option.{option_or}
use Rattle.cm_filter.specs.declared.kind.CallKind.{CallKind}
use Rattle.model_cred.specs.Call.{Call, Event}
use Rattle.model_cred.specs.Process.{Process, State, process_at}
use Rattle.model_cred.specs.Right.{Right}
use Rattle.model_cred.specs.World.{World}
use Rattle.model_rules.specs.Reply.{Reply, reply}
use Rattle.model_run.specs.Holds.{holds_right}
use Rattle.model_plans.specs.Move.{Seat, seat_of, Setting, Move, Raise, call_of}
use Rattle.model_plans.specs.Plan.{Choice, first_choices, middle_choices, last_choices, then_raise}
use Rattle.model_plans.specs.PlanRun.{setting_in, holder, Found, first_some}

-- what the rules reply to a call from the seat
abbrev pub reply_at : Setting → Seat → Call → Reply
reply_at q seat call = reply q.files q.spaces seat.space seat.cred call

-- the seat after an optional call
abbrev pub seat_after : Setting → Seat → Option Call → Seat
seat_after q seat None = seat
seat_after q seat (Some call) = let r : Reply = reply_at q seat call in record { space = r.space; cred = r.cred }

-- the event of an optional call, by the member of that pid
abbrev pub event_of : Setting → ℕ → Seat → Option Call → List Event
event_of q pid seat None = []
event_of q pid seat (Some call) = record { pid = pid; call = call; res = (reply_at q seat call).res } ∷ []

-- the seat after a move
abbrev pub after : Setting → Seat → Move → Seat
after q seat move = seat_after q seat (call_of q seat move)

-- the seat after moves, one after another
abbrev pub after_moves : Setting → Seat → List Move → Seat
after_moves q seat [] = seat
after_moves q seat (move ∷ moves) = after_moves q (after q seat move) moves

-- the events of moves, one after another
abbrev pub events_of : Setting → ℕ → Seat → List Move → List Event
events_of q pid seat [] = []
events_of q pid seat (move ∷ moves) =
    event_of q pid seat (call_of q seat move) ++ events_of q pid (after q seat move) moves

-- a member at the seat holds the right
abbrev pub seat_holds : Setting → Seat → Bool
seat_holds q seat = holds_right q.spaces seat.space seat.cred q.right

-- the first of the last choices after which, once the effective set is raised, the member holds the right
unfoldable pub last_found : Setting → Seat → Option Choice
last_found q seat = find (λ last. seat_holds q (after_moves q seat (then_raise last))) (last_choices q.right)

-- the first of these middle choices after which there is such a last one: the moves from the middle choice on
abbrev pub middle_found : Setting → Seat → List Choice → Option (List Move)
middle_found q seat middles =
    first_some (λ middle.
    option_map (λ last. then_raise middle ++ then_raise last)
    (last_found q (after_moves q seat (then_raise middle)))) middles

-- the first of these first choices after which there are such others: all moves
abbrev pub moves_from : Setting → Seat → List Choice → List Choice → Option (List Move)
moves_from q seat middles firsts =
    first_some (λ first.
    option_map (λ rest. (Raise ∷ first) ++ rest)
    (middle_found q (after_moves q seat (Raise ∷ first)) middles)) firsts

-- the moves of the first plan of a member at that seat after which it holds the right
unfoldable pub moves_found : Setting → Seat → Option (List Move)
moves_found q seat = moves_from q seat (middle_choices q.files q.spaces seat.space) first_choices

-- what is found by a member at that seat
abbrev pub found_at : Setting → ℕ → Seat → Option Found
found_at q pid seat =
    option_map (λ moves. record { run = events_of q pid seat moves; holder = pid }) (moves_found q seat)

-- what is found by a member that lives
abbrev pub found_for : (CallKind → Bool) → World → State → Right → ℕ → Option Process → Option Found
found_for permitted w s right pid None = None
found_for permitted w s right pid (Some p) = found_at (setting_in permitted w s right p) pid (seat_of p)

-- what is found by the first of these members that finds something
abbrev pub found_among : (CallKind → Bool) → World → State → Right → List ℕ → Option Found
found_among permitted w s right pids =
    first_some (λ pid. found_for permitted w s right pid (process_at s.processes pid)) pids

-- what is found without a move: a member who holds the right already
abbrev pub found_now : State → List ℕ → Right → Option Found
found_now s members right = option_map (λ pid. record { run = []; holder = pid }) (holder s members right)

-- What is found on seats: without a move, else by the first member, and the first of its choices.
unfoldable pub walked : (CallKind → Bool) → World → State → List ℕ → Right → Option Found
walked permitted w s members right = option_or (found_now s members right) (found_among permitted w s right members)
