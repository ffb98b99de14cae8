-- Moves that leave a member where it is, and who may make an id its effective one that isn't that yet.
use Rattle.std.specs.Prelude.{◌≡◌, ℕ, ◌==◌, ◌||◌, Bool, false, Option, None, Some}
use Rattle.model_cred.specs.Credential.{FourIds}
use Rattle.model_plans.specs.Move.{Move, Seat, Setting}
use Rattle.model_plans.specs.Walk.{after}

-- the move leaves the member at the seat
abbrev pub StaysAt : Setting → Seat → Move → Type 0
StaysAt q seat move = after q seat move ≡ seat

-- the optional id is there; and the caller has the capability, or the id is its real or its saved one
abbrev pub may_be : Bool → FourIds → Option ℕ → Bool
may_be privileged ids None = false
may_be privileged ids (Some id) = privileged || id == ids.real || id == ids.saved
