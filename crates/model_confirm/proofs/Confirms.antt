-- What a run comes to, and why: each answer and its cause.
use Rattle.std.proofs.Common.{◌≡◌, ℕ, Bool, true, false, List, [], ◌∷◌, ◌&&◌, Option, None, Some, append-nil}
use Rattle.std.proofs.Common.{if◌then◌else◌, refl, sym, ap, ◌∙◌, subst}
use Rattle.cm_base.specs.declared.limited.Limited.{Limited}
use Rattle.cm_filter.specs.Filters.{permits}
use Rattle.model_confirm.proofs.LeastHolders.{Least, least_is, least_only}
use Rattle.model_confirm.proofs.Passing.{one_state, refuses, past, run_passes}
use Rattle.model_confirm.specs.Causes.{LaterWithin, GoesThrough, GoesUpTo, EndsWithHolder, EndsWithout, IsRefused}
use Rattle.model_confirm.specs.Causes.{no_member, excluded, no_step, IsLineRefused, by_fault, by_event, IsPastLimit}
use Rattle.model_confirm.specs.Causes.{by_line, by_step}
use Rattle.model_confirm.specs.Confirm.{Confirmed, Confirms, RefusesLine, RefusesEnd, PastLimit, by_holder, by_ending, least_holder}
use Rattle.model_confirm.specs.Confirm.{by_outcome, unless_past, events_confirm, is_for_members, confirm_of}
use Rattle.model_confirm.specs.Laws.{ConfirmsLaterRuns, RefusesLines, RefusesEnds, StopsAtLimits, OthersEndWithout}
use Rattle.model_cred.specs.Call.{kind_of}
use Rattle.model_cred.specs.Process.{State}
use Rattle.model_cred.specs.Right.{Right}
use Rattle.model_cred.specs.World.{World}
use Rattle.model_run.specs.Later.{is_member, members_after}
use Rattle.model_run.specs.Own.{may_call}
use Rattle.model_run.specs.Step.{Outcome, Goes, NoProcess, NoSpace, PidInUse, Wrong, Step, outcome}
use Rattle.model_run.specs.Within.{exceeded, IsWithin}
use Rattle.model_text.specs.Reading.{Placed, Fault, Limit, End, AtEnd, Stops, Reading, reads_on, ends_at}

-- the cause of each answer
abbrev pub CauseOf : World → State → List ℕ → Right → Reading → Confirmed → Type 0
CauseOf w s members right reading (Confirms pid) = EndsWithHolder w s members right reading pid
CauseOf w s members right reading (RefusesLine number) = IsLineRefused w s members reading number
CauseOf w s members right reading RefusesEnd = EndsWithout w s members right reading
CauseOf w s members right reading (PastLimit l) = IsPastLimit w s members reading l

-- ---- the answer has its cause
-- nothing is left but the end
abbrev through_end : (w : World) (s : State) (members : List ℕ) (ending : End) → GoesThrough w s members (ends_at ending) ending
through_end w s members ending =
    record { last = s; members_then = members; run = record { later = (refl, refl); within = refl }; ends = refl }

cause_of_holder : (w : World) (s : State) (members : List ℕ) (right : Right) (found : Option ℕ) → Least s members right found
    → CauseOf w s members right (ends_at AtEnd) (by_holder found)
cause_of_holder w s members right None none = record { through = through_end w s members AtEnd; none = none }
cause_of_holder w s members right (Some pid) is = record { through = through_end w s members AtEnd; holder = is }

cause_of_ending : (w : World) (s : State) (members : List ℕ) (right : Right) (ending : End)
    → CauseOf w s members right (ends_at ending) (by_ending s members right ending)
cause_of_ending w s members right AtEnd =
    cause_of_holder w s members right (least_holder s members right) (least_is s members right)
cause_of_ending w s members right (Stops (Fault number why)) = by_fault why (through_end w s members (Stops (Fault number why)))
cause_of_ending w s members right (Stops (Limit l)) = by_line (through_end w s members (Stops (Limit l)))

-- One event is taken, and then there is the rest.
module _ (w : World) (s mid : State) (members : List ℕ) (right : Right) (e : Placed) (rest : Reading) (goes : Step w s e.event mid)
    (within : IsWithin mid) (member : is_member members e.event.pid ≡ true) (permitted : may_call (permits w.filter) s e.event.pid (kind_of e.event.call) ≡ true) where
  abbrev members' : List ℕ
  members' = members_after members e.event.pid e.event.call e.event.res

  run_on : (events : List Placed) (last : State) (members_then : List ℕ) → LaterWithin w mid members' events last members_then
      → LaterWithin w s members (e ∷ events) last members_then
  run_on events last members_then run =
      record { later = (mid, member, permitted, goes, run.later); within = (mid, goes, within, run.within) }

  abbrev through_on : (ending : End) → GoesThrough w mid members' rest ending → GoesThrough w s members (reads_on e rest) ending
  through_on ending is = record {
    last = is.last;
    members_then = is.members_then;
    run = run_on rest.events is.last is.members_then is.run;
    ends = is.ends;
  }

  abbrev up_to_on : GoesUpTo w mid members' rest → GoesUpTo w s members (reads_on e rest)
  up_to_on is = record {
    before = e ∷ is.before;
    event = is.event;
    later = is.later;
    parted = ap (λ (es : List Placed). e ∷ es) is.parted;
    last = is.last;
    members_then = is.members_then;
    run = run_on is.before is.last is.members_then is.run;
  }

  line_on : (number : ℕ) → IsLineRefused w mid members' rest number → IsLineRefused w s members (reads_on e rest) number
  line_on number (by_fault why is) = by_fault why (through_on (Stops (Fault number why)) is)
  line_on number (by_event is) =
      by_event (record { up_to = up_to_on is.up_to; line = is.line; within = is.within; refused = is.refused })

  past_on : (l : Limited) → IsPastLimit w mid members' rest l → IsPastLimit w s members (reads_on e rest) l
  past_on l (by_line is) = by_line (through_on (Stops (Limit l)) is)
  past_on l (by_step is) = by_step (record { up_to = up_to_on is.up_to; after = is.after; step = is.step; over = is.over })

  cause_on : (c : Confirmed) → CauseOf w mid members' right rest c → CauseOf w s members right (reads_on e rest) c
  cause_on (Confirms pid) is = record { through = through_on AtEnd is.through; holder = is.holder }
  cause_on (RefusesLine number) is = line_on number is
  cause_on RefusesEnd is = record { through = through_on AtEnd is.through; none = is.none }
  cause_on (PastLimit l) is = past_on l is

-- The first event is refused, or is a step past a limit.
module _ (w : World) (s : State) (members : List ℕ) (right : Right) (e : Placed) (rest : Reading) where
  abbrev up_to_first : GoesUpTo w s members (reads_on e rest)
  up_to_first = record {
    before = [];
    event = e;
    later = rest.events;
    parted = refl;
    last = s;
    members_then = members;
    run = record { later = (refl, refl); within = refl };
  }

  refused_first : ((after : State) → Step w s e.event after → IsWithin after) → IsRefused w s members e.event
      → IsLineRefused w s members (reads_on e rest) e.line
  refused_first within is = by_event (record { up_to = up_to_first; line = refl; within = within; refused = is })

  past_first : (after : State) (l : Limited) → Step w s e.event after → exceeded after ≡ Some l → IsPastLimit w s members (reads_on e rest) l
  past_first after l goes over = by_step (record { up_to = up_to_first; after = after; step = goes; over = over })

  -- the state that the first event leads to is the only one
  only : (mid : State) → Step w s e.event mid → IsWithin mid → (after : State) → Step w s e.event after → IsWithin after
  only mid goes within after it = subst IsWithin (one_state (outcome w s e.event) mid after goes it) within

  -- a step within the limits
  cause_of_step : (mid : State) → Step w s e.event mid → IsWithin mid → (c : Confirmed)
      → CauseOf w mid (members_after members e.event.pid e.event.call e.event.res) right rest c
      → (member permitted : Bool) → is_member members e.event.pid ≡ member → may_call (permits w.filter) s e.event.pid (kind_of e.event.call) ≡ permitted
      → CauseOf w s members right (reads_on e rest) (if member && permitted then c else RefusesLine e.line)
  cause_of_step mid goes within c cause true true is may = cause_on w s mid members right e rest goes within is may c cause
  cause_of_step mid goes within c cause true false is may = refused_first (only mid goes within) (excluded may)
  cause_of_step mid goes within c cause false permitted is may = refused_first (only mid goes within) (no_member is)

-- What the first event comes to has its cause, where what the rest comes to has.
module _ (w : World) (s : State) (members : List ℕ) (right : Right) (e : Placed) (rest : Reading) (next : State → Confirmed)
    (causes : (mid : State) → CauseOf w mid (members_after members e.event.pid e.event.call e.event.res) right rest (next mid)) where
  by_limit : (mid : State) → Step w s e.event mid → (l : Option Limited) → exceeded mid ≡ l
      → CauseOf w s members right (reads_on e rest) (unless_past l (if is_for_members w s members e.event then next mid else RefusesLine e.line))
  by_limit mid goes (Some l) over = past_first w s members right e rest mid l goes over
  by_limit mid goes None within =
      cause_of_step w s members right e rest mid goes within (next mid) (causes mid)
      (is_member members e.event.pid) (may_call (permits w.filter) s e.event.pid (kind_of e.event.call)) refl refl

  refused : (become : Outcome) → outcome w s e.event ≡ become → ((after : State) → become ≡ Goes after → ⊥)
      → IsLineRefused w s members (reads_on e rest) e.line
  refused become is none =
      let no : (after : State) → Step w s e.event after → ⊥ = λ after goes. none after (sym is ∙ goes) in
      refused_first w s members right e rest (λ after goes. absurd (no after goes)) (no_step no)

  by_become : (become : Outcome) → outcome w s e.event ≡ become → CauseOf w s members right (reads_on e rest) (by_outcome w s members e next become)
  by_become (Goes mid) is = by_limit mid is (exceeded mid) refl
  by_become NoProcess is = refused NoProcess is (λ after no. cc)
  by_become NoSpace is = refused NoSpace is (λ after no. cc)
  by_become PidInUse is = refused PidInUse is (λ after no. cc)
  by_become (Wrong res) is = refused (Wrong res) is (λ after no. cc)

  cause_first : CauseOf w s members right (reads_on e rest) (by_outcome w s members e next (outcome w s e.event))
  cause_first = by_become (outcome w s e.event) refl

-- What a run comes to has its cause.
pub cause_of_events : (w : World) (events : List Placed) (ending : End) (s : State) (members : List ℕ) (right : Right)
    → CauseOf w s members right (record { events = events; ending = ending }) (events_confirm w s members right events ending)
cause_of_events w [] ending s members right = cause_of_ending w s members right ending
cause_of_events w (e ∷ events) ending s members right =
    let members' : List ℕ = members_after members e.event.pid e.event.call e.event.res in
    cause_first w s members right e (record { events = events; ending = ending })
    (λ s'. events_confirm w s' members' right events ending)
    (λ mid. cause_of_events w events ending mid members' right)

-- ---- what has a cause is the answer
module _ (w : World) (s : State) (members : List ℕ) (right : Right) (reading : Reading) where
  -- all events go through
  over_all : (ending : End) (is : GoesThrough w s members reading ending)
      → confirm_of w s members right reading ≡ by_ending is.last is.members_then right ending
  over_all ending is =
      ap (λ (es : List Placed). events_confirm w s members right es reading.ending) (sym (append-nil reading.events))
      ∙ run_passes w right reading.events [] reading.ending s members is.last is.members_then is.run.later is.run.within
      ∙ ap (λ (end : End). by_ending is.last is.members_then right end) is.ends

  -- those before one do
  abbrev next_of : GoesUpTo w s members reading → State → Confirmed
  next_of is s' =
      events_confirm w s' (members_after is.members_then is.event.event.pid is.event.event.call is.event.event.res) right is.later reading.ending

  over_first : (is : GoesUpTo w s members reading)
      → confirm_of w s members right reading ≡ by_outcome w is.last is.members_then is.event (next_of is) (outcome w is.last is.event.event)
  over_first is =
      ap (λ (es : List Placed). events_confirm w s members right es reading.ending) is.parted
      ∙ run_passes w right is.before (is.event ∷ is.later) reading.ending s members is.last is.members_then is.run.later is.run.within

  line_is : (number : ℕ) → IsLineRefused w s members reading number → confirm_of w s members right reading ≡ RefusesLine number
  line_is number (by_fault why is) = over_all (Stops (Fault number why)) is
  line_is number (by_event is) =
      over_first is.up_to ∙ refuses w is.up_to.last is.up_to.members_then is.up_to.event (next_of is.up_to) is.within is.refused
      ∙ ap (λ (n : ℕ). RefusesLine n) is.line

  past_is : (l : Limited) → IsPastLimit w s members reading l → confirm_of w s members right reading ≡ PastLimit l
  past_is l (by_line is) = over_all (Stops (Limit l)) is
  past_is l (by_step is) =
      over_first is.up_to
      ∙ past w is.up_to.last is.up_to.members_then is.up_to.event (next_of is.up_to) (outcome w is.up_to.last is.up_to.event.event) is.after l is.step is.over

  pub answer_of : (c : Confirmed) → CauseOf w s members right reading c → confirm_of w s members right reading ≡ c
  answer_of (Confirms pid) is =
      over_all AtEnd is.through ∙ ap by_holder (least_only is.through.last is.through.members_then right (Some pid) is.holder)
  answer_of (RefusesLine number) is = line_is number is
  answer_of RefusesEnd is =
      over_all AtEnd is.through ∙ ap by_holder (least_only is.through.last is.through.members_then right None is.none)
  answer_of (PastLimit l) is = past_is l is

  pub cause_of : (c : Confirmed) → confirm_of w s members right reading ≡ c → CauseOf w s members right reading c
  cause_of c is = subst (CauseOf w s members right reading) is (cause_of_events w reading.events reading.ending s members right)

-- ---- the laws
pub confirms_later_runs : ConfirmsLaterRuns
unfolding ConfirmsLaterRuns
confirms_later_runs w s members right reading pid =
    (cause_of w s members right reading (Confirms pid), answer_of w s members right reading (Confirms pid))

pub refuses_lines : RefusesLines
unfolding RefusesLines
refuses_lines w s members right reading number =
    (cause_of w s members right reading (RefusesLine number), answer_of w s members right reading (RefusesLine number))

pub refuses_ends : RefusesEnds
unfolding RefusesEnds
refuses_ends w s members right reading = (cause_of w s members right reading RefusesEnd, answer_of w s members right reading RefusesEnd)

pub stops_at_limits : StopsAtLimits
unfolding StopsAtLimits
stops_at_limits w s members right reading l =
    (cause_of w s members right reading (PastLimit l), answer_of w s members right reading (PastLimit l))

pub others_end_without : OthersEndWithout
unfolding OthersEndWithout
others_end_without w s members right reading other pid is = other pid (answer_of w s members right reading (Confirms pid) is)
