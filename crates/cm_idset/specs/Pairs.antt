-- Two intervals.
use Rattle.std.specs.Prelude.{◌+◌, Bool, Option, Some, None, if◌then◌else◌, nat_le, max, min}
use Rattle.model_cred.specs.Intervals.{Interval}

-- the ids that two intervals have in common: those from the later beginning to the earlier end
abbrev pub in_common : Interval → Interval → Option Interval
in_common i j =
    if nat_le (max i.first j.first) (min i.last j.last) then Some (record { first = max i.first j.first; last = min i.last j.last })
    else None

-- no id lies between the end of the one and the beginning of the next
abbrev pub reaches : Interval → Interval → Bool
reaches i next = nat_le next.first (i.last + 1)

-- the one, going on to where the next ends if that is later
abbrev pub joined : Interval → Interval → Interval
joined i next = record { first = i.first; last = max i.last next.last }
