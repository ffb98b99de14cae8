-- What the code says of a run, in the words of the definitions, and what an event of it is.
use Rattle.std.specs.Prelude.{◌≡◌, ℕ, true, List}
use Rattle.cm_confirm.specs.declared.confirmed.Confirmed.{Confirmed}
use Rattle.cm_confirm.specs.declared.confirmed.Confirmed.TheVariants as code
use Rattle.cm_confirm.specs.declared.confirming.Turn.{Turn}
use Rattle.cm_confirm.specs.declared.confirming.Turn.TheVariants as turn
use Rattle.cm_confirm.specs.Members.{SameMembers}
use Rattle.model_confirm.specs.Confirm as model
use Rattle.model_confirm.specs.Confirm.{by_outcome, confirm_of, is_for_members}
use Rattle.model_cred.specs.Process.{State}
use Rattle.model_cred.specs.Right.{Right}
use Rattle.model_cred.specs.World.{World}
use Rattle.model_run.specs.Later.{members_after}
use Rattle.model_run.specs.Step.{Outcome, Goes}
use Rattle.model_run.specs.Within.{IsWithin}
use Rattle.model_text.specs.Reading.{Placed, Reading}

-- what a run comes to
abbrev pub confirmed_of : Confirmed → model.Confirmed
confirmed_of (code.Confirms pid) = model.Confirms pid
confirmed_of (code.RefusesLine number) = model.RefusesLine number
confirmed_of code.RefusesEnd = model.RefusesEnd
confirmed_of (code.PastLimit l) = model.PastLimit l

-- The run goes on with the event, a member's step from the one state to the other, within the limits, and then these
-- are members.
pub record GoesOn (w : World) (before : State) (members : List ℕ) (e : Placed) (become : Outcome)
    (after : State) (members_then : List ℕ) : Type 0 where
  pub step : become ≡ Goes after
  pub within : IsWithin after
  pub member : is_for_members w before members e.event ≡ true
  pub they : SameMembers members_then (members_after members e.event.pid e.event.call e.event.res)

-- The run goes on with the event; or this is what it comes to, whatever would come after it.
abbrev pub IsTurn : World → State → List ℕ → Placed → Turn → Outcome → State → List ℕ → Type 0
IsTurn w before members e turn.Goes become after members_then = GoesOn w before members e become after members_then
IsTurn w before members e (turn.Ends c) become after members_then =
    (rest : State → model.Confirmed) → by_outcome w before members e rest become ≡ confirmed_of c

-- The run goes on: what it comes to from where it was is what it comes to from there, by what is left; or this is what
-- it comes to.
abbrev pub ComesTo : World → State → List ℕ → Right → Reading → Turn → State → List ℕ → Reading → Type 0
ComesTo w s members right reading turn.Goes after members_then later =
    (confirm_of w s members right reading ≡ confirm_of w after members_then right later) × IsWithin after
ComesTo w s members right reading (turn.Ends c) after members_then later = confirm_of w s members right reading
    ≡ confirmed_of c
