-- A run that is put forward: its lines, read as a script, from a state on and by the members of a family. It is confirmed
-- where it is a later run, at whose end a member holds the right.
use Rattle.std.specs.Prelude.{ℕ, nat_le, ◌&&◌, Bool, List, [], ◌∷◌, Option, Some, None, if◌then◌else◌}
use Rattle.cm_base.specs.declared.limited.Limited.{Limited}
use Rattle.cm_filter.specs.Filters.{permits}
use Rattle.model_cred.specs.Call.{Event, kind_of}
use Rattle.model_cred.specs.Process.{State}
use Rattle.model_cred.specs.Right.{Right}
use Rattle.model_cred.specs.World.{World}
use Rattle.model_run.specs.Holds.{process_holds}
use Rattle.model_run.specs.Later.{is_member, members_after}
use Rattle.model_run.specs.Own.{may_call}
use Rattle.model_run.specs.Step.{Outcome, Goes, outcome}
use Rattle.model_run.specs.Within.{exceeded}
use Rattle.model_text.specs.Reading.{Placed, Stop, Fault, Limit, End, AtEnd, Stops, Reading}

-- What a run comes to: it is confirmed, and this member holds the right at its end; the line of that number is refused; its
-- end is, where no member holds the right; or it exceeds a limit.
pub data Confirmed : Type 0 where
  Confirms : ℕ → Confirmed
  RefusesLine : ℕ → Confirmed
  RefusesEnd : Confirmed
  PastLimit : Limited → Confirmed

-- ---- the end of a run
-- the lesser of two numbers, where they are there
abbrev pub lesser : Option ℕ → Option ℕ → Option ℕ
lesser None other = other
lesser (Some n) None = Some n
lesser (Some n) (Some m) = if nat_le n m then Some n else Some m

-- the member, where it holds the right
abbrev pub if_holder : State → ℕ → Right → Option ℕ
if_holder s pid right = if process_holds s pid right then Some pid else None

-- the least of the members that hold the right, in whatever order they stand
abbrev pub least_holder : State → List ℕ → Right → Option ℕ
least_holder s [] right = None
least_holder s (member ∷ members) right = lesser (if_holder s member right) (least_holder s members right)

-- what the run comes to by who holds the right at its end
abbrev pub by_holder : Option ℕ → Confirmed
by_holder None = RefusesEnd
by_holder (Some pid) = Confirms pid

-- what stopped the reading: a fault of a line refuses that line
abbrev pub by_stop : Stop → Confirmed
by_stop (Fault number why) = RefusesLine number
by_stop (Limit l) = PastLimit l

-- how the reading ends, in the state and with the members that its events leave
abbrev pub by_ending : State → List ℕ → Right → End → Confirmed
by_ending s members right AtEnd = by_holder (least_holder s members right)
by_ending s members right (Stops stop) = by_stop stop

-- ---- its events
-- the event is a member's, and its call of a kind that the world's filter permits, and the member's own in that state
abbrev pub is_for_members : World → State → List ℕ → Event → Bool
is_for_members w s members e = is_member members e.pid && may_call (permits w.filter) s e.pid (kind_of e.call)

-- the rest, unless a limit is exceeded
abbrev pub unless_past : Option Limited → Confirmed → Confirmed
unless_past None rest = rest
unless_past (Some l) rest = PastLimit l

-- What an event comes to in a state, by what becomes of it. First come the limits: a step after which the state exceeds
-- one, whoever makes it. Then an event that isn't a member's, whose call a filter excludes, or that is no step, is
-- refused at its line.
abbrev pub by_outcome : World → State → List ℕ → Placed → (State → Confirmed) → Outcome → Confirmed
by_outcome w s members e rest (Goes s') =
    unless_past (exceeded s') (if is_for_members w s members e.event then rest s' else RefusesLine e.line)
by_outcome w s members e rest become = RefusesLine e.line

-- what events come to, after which the reading ends so, from a state on, by these members
abbrev pub events_confirm : World → State → List ℕ → Right → List Placed → End → Confirmed
events_confirm w s members right [] ending = by_ending s members right ending
events_confirm w s members right (e ∷ events) ending =
    by_outcome w s members e
    (λ s'. events_confirm w s' (members_after members e.event.pid e.event.call e.event.res) right events ending)
    (outcome w s e.event)

-- What a run comes to, by what it reads as.
abbrev pub confirm_of : World → State → List ℕ → Right → Reading → Confirmed
confirm_of w s members right reading = events_confirm w s members right reading.events reading.ending
