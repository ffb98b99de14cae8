-- The answers of the code and the faults of the definitions.
use Rattle.std.specs.Prelude.{◌==◌, Option, None, Some, nat_lt, length, List, if◌then◌else◌}
use Rattle.cm_idmap.specs.declared.fault.BadMap.{BadMap}
use Rattle.cm_idmap.specs.declared.fault.BadMap.TheVariants as answer
use Rattle.model_cred.specs.IdMap.{Extent}
use Rattle.model_cred.specs.MapFault.{MapFault, Empty, TooMany, ZeroLength, PastEnd, Overlap, first_extent_fault, most_extents}

-- The fault of the list that an answer tells: NoMemory, which comes only for a map, tells none.
abbrev pub fault_of : BadMap → Option MapFault
fault_of answer.Empty = Some Empty
fault_of answer.TooMany = Some TooMany
fault_of (answer.ZeroLength i) = Some (ZeroLength i)
fault_of (answer.PastEnd i) = Some (PastEnd i)
fault_of (answer.Overlap i j) = Some (Overlap i j)
fault_of answer.NoMemory = None

-- the fault of the list that a check tells, if any
abbrev pub told : Option BadMap → Option MapFault
told None = None
told (Some e) = fault_of e

-- the first fault of a list that isn't one of two lines that meet
abbrev pub fault_but_overlap : List Extent → Option MapFault
fault_but_overlap list =
    if length list == 0 then Some Empty
    else if nat_lt most_extents (length list) then Some TooMany
    else first_extent_fault 0 list
