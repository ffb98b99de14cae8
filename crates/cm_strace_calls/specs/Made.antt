-- Calls that are made by their shapes, in the words of the definitions.
use Rattle.std.specs.Prelude.{ℕ, Bool, true, false, [], ◌∷◌, unwrap_or}
use Rattle.cm_filter.specs.declared.kind.CallKind.{CallKind}
use Rattle.cm_filter.specs.declared.shape.Shape.{Shape}
use Rattle.cm_filter.specs.declared.shape.Shape.TheVariants.{OneId, TwoIds, ThreeIds, OneCap, OneNumber}
use Rattle.cm_filter.specs.Shapes.{shape_of}
use Rattle.cm_strace_calls.specs.declared.listed.ReadFor.{ReadFor}
use Rattle.cm_strace_calls.specs.declared.listed.ReadFor.TheVariants.{SetsIds}
use Rattle.model_cred.specs.Arguments.{Argument, Cap, Number, call_with}
use Rattle.model_cred.specs.Call.{Call, AmbClear}

-- the arguments of a call of the shape are one, two or three ids
abbrev pub has_ids : Shape → Bool
has_ids OneId = true
has_ids TwoIds = true
has_ids ThreeIds = true
has_ids _ = false

-- where the lines of a call are read for the ids that it sets, its arguments are such
abbrev pub is_fit : ReadFor → Bool
is_fit (SetsIds kind) = has_ids (shape_of kind)
is_fit _ = true

-- its argument is a number, or a capability
abbrev pub has_number : Shape → Bool
has_number OneCap = true
has_number OneNumber = true
has_number _ = false

-- that argument
abbrev pub number_argument : Shape → ℕ → Argument
number_argument OneCap n = Cap n
number_argument _ n = Number n

-- the call of the kind with that argument, where it has such a one
abbrev pub number_call : CallKind → ℕ → Call
number_call kind n = unwrap_or (call_with kind (number_argument (shape_of kind) n ∷ [])) AmbClear
