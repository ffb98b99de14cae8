-- The limits of a state, and runs within them.
use Rattle.std.specs.Prelude.{◌≡◌, nat_lt, length, List, [], ◌∷◌, Option, Some, None, if◌then◌else◌}
use Rattle.cm_base.specs.declared.limited.Limited.{Limited}
use Rattle.cm_base.specs.declared.limited.Limited.TheVariants as limit
use Rattle.cm_base.specs.Limited.{limit_number}
use Rattle.model_cred.specs.Call.{Event}
use Rattle.model_cred.specs.Process.{State}
use Rattle.model_cred.specs.World.{World}
use Rattle.model_run.specs.Step.{Step}

-- the limit that a state exceeds, where it does: that of live processes, else that of spaces
abbrev pub exceeded : State → Option Limited
exceeded s =
    if nat_lt (limit_number limit.Processes) (length s.processes) then Some limit.Processes
    else if nat_lt (limit_number limit.Spaces) (length s.spaces) then Some limit.Spaces
    else None

-- The state is within the limits of live processes and of spaces.
abbrev pub IsWithin : State → Type 0
IsWithin s = exceeded s ≡ None

-- A run all of whose states, but the first, are within the limits of live processes and of spaces.
abbrev pub RunWithin : World → State → List Event → State → Type 0
RunWithin w s [] s' = s' ≡ s
RunWithin w s (e ∷ es) s' = (mid : State) × Step w s e mid × IsWithin mid × RunWithin w mid es s'
