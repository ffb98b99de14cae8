-- Calls of which the shape alone tells.
use Rattle.std.specs.Prelude.{Bool, true, false, Option, Some, None}
use Rattle.cm_base.specs.declared.faults.LineFault.TheVariants as fault
use Rattle.model_strace.specs.Calls.{Listed, Close, Dup, DupTo, Fcntl, Write}
use Rattle.model_strace.specs.Parts.{Parts}
use Rattle.model_strace.specs.Turn.{Turn, Quiet, Refused}
use Rattle.model_strace.specs.Written.{Written}

-- the call is read for the descriptor that it is made on
abbrev pub is_on_descriptors : Listed → Bool
is_on_descriptors Close = true
is_on_descriptors Dup = true
is_on_descriptors DupTo = true
is_on_descriptors Fcntl = true
is_on_descriptors Write = true
is_on_descriptors _ = false

-- what a call with these parts does, where no more is looked at
abbrev pub shape_turn : Option Written → Parts → Turn
shape_turn None p = Refused fault.Shape
shape_turn (Some parts) p = Quiet p
