-- What is proved of what a run comes to.
use Rattle.std.specs.Prelude.{◌≡◌, ◌≢◌, ◌↔◌, ℕ, List}
use Rattle.cm_base.specs.declared.limited.Limited.{Limited}
use Rattle.model_cred.specs.Process.{State}
use Rattle.model_cred.specs.Right.{Right}
use Rattle.model_cred.specs.World.{World}
use Rattle.model_confirm.specs.Causes.{EndsWithHolder, EndsWithout, IsLineRefused, IsPastLimit}
use Rattle.model_confirm.specs.Confirm.{Confirms, RefusesLine, RefusesEnd, PastLimit, confirm_of}
use Rattle.model_text.specs.Reading.{Reading}

-- It is confirmed, with this holder, exactly where it is a later run within the limits, which ends at the text's end, and
-- this is then the least member that holds the right.
unfoldable pub ConfirmsLaterRuns : Type 0
ConfirmsLaterRuns = (w : World) (s : State) (members : List ℕ) (right : Right) (reading : Reading) (pid : ℕ)
    → (confirm_of w s members right reading ≡ Confirms pid) ↔ EndsWithHolder w s members right reading pid

-- A line is refused exactly where it has a fault, or its event is no member's, of an excluded kind, or no step.
unfoldable pub RefusesLines : Type 0
RefusesLines = (w : World) (s : State) (members : List ℕ) (right : Right) (reading : Reading) (number : ℕ)
    → (confirm_of w s members right reading ≡ RefusesLine number) ↔ IsLineRefused w s members reading number

-- The end is refused exactly where the whole is a later run, and no member holds the right at its end.
unfoldable pub RefusesEnds : Type 0
RefusesEnds = (w : World) (s : State) (members : List ℕ) (right : Right) (reading : Reading)
    → (confirm_of w s members right reading ≡ RefusesEnd) ↔ EndsWithout w s members right reading

-- It exceeds a limit exactly where a line does, or a step would.
unfoldable pub StopsAtLimits : Type 0
StopsAtLimits = (w : World) (s : State) (members : List ℕ) (right : Right) (reading : Reading) (l : Limited)
    → (confirm_of w s members right reading ≡ PastLimit l) ↔ IsPastLimit w s members reading l

-- Where it isn't confirmed, it is no later run within the limits that ends with a holder.
unfoldable pub OthersEndWithout : Type 0
OthersEndWithout = (w : World) (s : State) (members : List ℕ) (right : Right) (reading : Reading)
    → ((pid : ℕ) → confirm_of w s members right reading ≢ Confirms pid)
    → (pid : ℕ) → EndsWithHolder w s members right reading pid → ⊥
