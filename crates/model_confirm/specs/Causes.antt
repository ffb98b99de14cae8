-- Why a run comes to what it does, in the words of runs.
use Rattle.std.specs.Prelude.{◌≡◌, ◌⊎◌, ℕ, false, List, ◌∷◌, ◌++◌, Some}
use Rattle.cm_base.specs.declared.faults.LineFault.{LineFault}
use Rattle.cm_base.specs.declared.limited.Limited.{Limited}
use Rattle.cm_filter.specs.Filters.{permits}
use Rattle.model_cred.specs.Call.{Event, kind_of}
use Rattle.model_cred.specs.Process.{State}
use Rattle.model_cred.specs.Right.{Right}
use Rattle.model_cred.specs.World.{World}
use Rattle.model_plans.specs.Firsts.{IsLeastHolder, NoneHolds}
use Rattle.model_run.specs.Later.{is_member, LaterRun}
use Rattle.model_run.specs.Own.{may_call}
use Rattle.model_run.specs.Step.{Step}
use Rattle.model_run.specs.Within.{exceeded, IsWithin, RunWithin}
use Rattle.model_text.specs.Reading.{Placed, Stop, Fault, Limit, End, AtEnd, Stops, Reading, events_of}

-- The events are a later run of the members from the state s, all of whose states are within the limits; at its end there are
-- this state and these members.
pub record LaterWithin (w : World) (s : State) (members : List ℕ) (events : List Placed) (last : State) (members_then : List ℕ)
    : Type 0 where
  pub later : LaterRun w s members (events_of events) last members_then
  pub within : RunWithin w s (events_of events) last

-- All events of the reading are such a run, and the reading ends so.
pub record GoesThrough (w : World) (s : State) (members : List ℕ) (reading : Reading) (ending : End) : Type 0 where
  pub last : State
  pub members_then : List ℕ
  pub run : LaterWithin w s members reading.events last members_then
  pub ends : reading.ending ≡ ending

-- The events before one are such a run.
pub record GoesUpTo (w : World) (s : State) (members : List ℕ) (reading : Reading) : Type 0 where
  pub before : List Placed
  pub event : Placed
  pub later : List Placed
  pub parted : reading.events ≡ before ++ event ∷ later
  pub last : State
  pub members_then : List ℕ
  pub run : LaterWithin w s members before last members_then

-- The run ends with a holder: it goes through to its end, and then the pid is the least member that holds the right.
pub record EndsWithHolder (w : World) (s : State) (members : List ℕ) (right : Right) (reading : Reading) (pid : ℕ) : Type 0 where
  pub through : GoesThrough w s members reading AtEnd
  pub holder : IsLeastHolder through.last through.members_then right pid

-- The run ends with no holder.
pub record EndsWithout (w : World) (s : State) (members : List ℕ) (right : Right) (reading : Reading) : Type 0 where
  pub through : GoesThrough w s members reading AtEnd
  pub none : NoneHolds through.last through.members_then right

-- The event is no member's, its call is of a kind that the world's filter or the caller's own excludes, or it is no
-- step.
pub data IsRefused (w : World) (s : State) (members : List ℕ) (e : Event) : Type 0 where
  no_member : is_member members e.pid ≡ false → IsRefused w s members e
  excluded : may_call (permits w.filter) s e.pid (kind_of e.call) ≡ false → IsRefused w s members e
  no_step : ((after : State) → Step w s e after → ⊥) → IsRefused w s members e

-- An event of the run is refused, and has this line; if it is a step, it isn't one past a limit.
pub record RefusesEvent (w : World) (s : State) (members : List ℕ) (reading : Reading) (number : ℕ) : Type 0 where
  pub up_to : GoesUpTo w s members reading
  pub line : up_to.event.line ≡ number
  pub within : (after : State) → Step w up_to.last up_to.event.event after → IsWithin after
  pub refused : IsRefused w up_to.last up_to.members_then up_to.event.event

-- A line is refused: it has a fault, and the events before it go through; or its event is refused.
pub data IsLineRefused (w : World) (s : State) (members : List ℕ) (reading : Reading) (number : ℕ) : Type 0 where
  by_fault : (why : LineFault) → GoesThrough w s members reading (Stops (Fault number why)) → IsLineRefused w s members reading number
  by_event : RefusesEvent w s members reading number → IsLineRefused w s members reading number

-- An event of the run is a step to a state that exceeds the limit.
pub record StepsPast (w : World) (s : State) (members : List ℕ) (reading : Reading) (l : Limited) : Type 0 where
  pub up_to : GoesUpTo w s members reading
  pub after : State
  pub step : Step w up_to.last up_to.event.event after
  pub over : exceeded after ≡ Some l

-- A limit is exceeded: by a line, before which the events go through; or by a step.
pub data IsPastLimit (w : World) (s : State) (members : List ℕ) (reading : Reading) (l : Limited) : Type 0 where
  by_line : GoesThrough w s members reading (Stops (Limit l)) → IsPastLimit w s members reading l
  by_step : StepsPast w s members reading l → IsPastLimit w s members reading l
