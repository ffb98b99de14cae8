-- The drill: its events, one after another, and where it ends. Each event is the own step of a process that is drawn, with
-- a call that is drawn.
use Rattle.std.specs.Prelude.{ℕ, zero, suc, ◌%◌, Bool, true, false, count_by, length, get_or, List, [], ◌∷◌}
use Rattle.cm_base.specs.declared.res.Res.{Res}
use Rattle.cm_base.specs.declared.res.Res.TheVariants.{Err}
use Rattle.model_cred.specs.Call.{Call, Event}
use Rattle.model_cred.specs.Process.{Process, State}
use Rattle.model_cred.specs.Right.{Right, Cap}
use Rattle.model_drill.specs.DrillWorld.{drill_world, first_process}
use Rattle.model_drill.specs.Draws.{drawn, number_after}
use Rattle.model_drill.specs.Rows.{DrillRow, row_drawn}
use Rattle.model_rules.specs.Caps.{cap_sys_admin}
use Rattle.model_run.specs.Family.{family}
use Rattle.model_run.specs.Ruling.{Ruling, own}
use Rattle.model_text.specs.Written.{events_text}

-- Where the drill stands between two events: the number that it draws on from, and the state of the machine.
pub record Stand : Type 0 where
  pub number : ℕ
  pub state : State

-- What is drawn for an event: its caller, its call, and the number after the draws.
pub record DrawnCall : Type 0 where
  pub caller : Process
  pub call : Call
  pub number : ℕ

-- An event, and where the drill stands after it.
pub record Turn : Type 0 where
  pub event : Event
  pub after : Stand

-- ---- one event
-- the live process at the place that a draw stands for, by ascending pid (one lives always)
abbrev pub caller_drawn : State → ℕ → Process
caller_drawn s draw = get_or s.processes (draw % length s.processes) first_process

-- the call of a row by the draws from a number on, and the number after them
abbrev pub call_drawn : State → Process → DrillRow → ℕ → DrawnCall
call_drawn s p row x = record {
  caller = p;
  call = row.call s p (λ place. drawn (number_after place x));
  number = number_after row.draws x;
}

-- The first draw gives the caller, the second one the row, those after it the items of the row.
unfoldable pub asked_at : Stand → DrawnCall
asked_at at =
    call_drawn at.state (caller_drawn at.state (drawn at.number)) (row_drawn (drawn (number_after 1 at.number)))
    (number_after 2 at.number)

-- the event of a call that the rules answer so, and where it leads
abbrev pub turn_of : DrawnCall → Ruling → Turn
turn_of asked r = record {
  event = record { pid = asked.caller.pid; call = asked.call; res = r.res };
  after = record { number = asked.number; state = r.state };
}

-- the caller makes the call, and the rules answer it
unfoldable pub turn : Stand → Turn
turn at = turn_of (asked_at at) (own drill_world at.state (asked_at at).caller (asked_at at).call)

-- ---- all events
-- where the drill stands after so many events
unfoldable pub stand_after : ℕ → Stand → Stand
stand_after zero at = at
stand_after (suc count) at = stand_after count (turn at).after

-- so many events
unfoldable pub events_from : ℕ → Stand → List Event
events_from zero at = []
events_from (suc count) at = (turn at).event ∷ events_from count (turn at).after

-- the drill of n draws from the number n on, in the state that its world begins with
abbrev pub drill_start : ℕ → Stand
drill_start n = record { number = n; state = drill_world.start }

-- it has n events
abbrev pub drill_events : ℕ → List Event
drill_events n = events_from n (drill_start n)

-- the state after them
abbrev pub drill_state : ℕ → State
drill_state n = (stand_after n (drill_start n)).state

-- the events as the lines of a script log
abbrev pub drill_text : ℕ → List ℕ
drill_text n = events_text drill_world (drill_events n)

-- ---- what is told of it
-- the answer is a refusal
abbrev pub is_refusal : Res → Bool
is_refusal (Err e) = true
is_refusal _ = false

-- the live process with the least pid: processes stand by ascending pid, and one lives always
abbrev pub first_live : State → ℕ
first_live s = (get_or s.processes 0 first_process).pid

-- How many events were made, how many of them were refused, how many processes live and how many spaces stand after them,
-- that state, and the live process with the least pid.
pub record Drilled : Type 0 where
  pub events : ℕ
  pub refused : ℕ
  pub live : ℕ
  pub spaces : ℕ
  pub state : State
  pub root : ℕ

-- what is told of a state after these events
abbrev pub told_of : List Event → State → Drilled
told_of events s = record {
  events = length events;
  refused = count_by (λ e. is_refusal e.res) events;
  live = length s.processes;
  spaces = length s.spaces;
  state = s;
  root = first_live s;
}

-- the drill of n
abbrev pub drilled : ℕ → Drilled
drilled n = told_of (drill_events n) (drill_state n)

-- ---- the question that is asked at its end
-- CAP_SYS_ADMIN over the initial space
abbrev pub drill_right : Right
drill_right = Cap cap_sys_admin 0

-- of the family of the live process with the least pid
abbrev pub drill_members : ℕ → List ℕ
drill_members n = family (drill_state n) (first_live (drill_state n))
