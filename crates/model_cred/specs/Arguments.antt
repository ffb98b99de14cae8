-- The arguments of calls, one by one: what each is, the call that they make, and those that a call has.
use Rattle.std.specs.Prelude.{ℕ, Bool, List, [], ◌∷◌, Option, Some, None, option_and_then, option_map, flat_map, map}
use Rattle.cm_base.specs.declared.res.FileRef.{FileRef}
use Rattle.cm_filter.specs.declared.kind.CallKind.{CallKind}
use Rattle.cm_filter.specs.Filters.{filter_excluding, excluded_kinds}
use Rattle.cm_filter.specs.Shapes.{Form, AnId, ANumber, ACap, ASet, ASpace, AWord, AFile, AKind}
use Rattle.cm_filter.specs.Shapes.{Pattern, Just, Ids, Triples, Kinds, pattern_of}
use Rattle.model_cred.specs.Call.{Call, kind_of}
use Rattle.model_cred.specs.Carried.{Value, Values, Carries}
use Rattle.model_cred.specs.IdMap.{Extent}

-- An argument of each form: the word is "deny" where it is true, else "allow".
pub data Argument : Type 0 where
  Id : ℕ → Argument
  Number : ℕ → Argument
  Cap : ℕ → Argument
  Set : ℕ → Argument
  Space : ℕ → Argument
  Word : Bool → Argument
  File : FileRef → Argument
  Kind : CallKind → Argument

-- ---- the call of its arguments
-- the extents of triples of numbers: inside, outside, length
abbrev pub extents_in : List Argument → Option (List Extent)
extents_in [] = Some []
extents_in (Number i ∷ Number o ∷ Number n ∷ more) = option_map (λ list. record { inside = i; outside = o; length = n } ∷ list) (extents_in more)
extents_in _ = None

-- the ids of a list
abbrev pub ids_in : List Argument → Option (List ℕ)
ids_in [] = Some []
ids_in (Id n ∷ more) = option_map (λ ids. n ∷ ids) (ids_in more)
ids_in _ = None

-- the kinds of a list
abbrev pub kinds_in : List Argument → Option (List CallKind)
kinds_in [] = Some []
kinds_in (Kind k ∷ more) = option_map (λ kinds. k ∷ kinds) (kinds_in more)
kinds_in _ = None

-- what an argument is, where it is of the form
abbrev pub value_in : (form : Form) → Argument → Option (Value form)
value_in AnId (Id n) = Some n
value_in ANumber (Number n) = Some n
value_in ACap (Cap n) = Some n
value_in ASet (Set n) = Some n
value_in ASpace (Space n) = Some n
value_in AWord (Word deny) = Some deny
value_in AFile (File file) = Some file
value_in AKind (Kind kind) = Some kind
value_in _ _ = None

-- what arguments are, where they are of these forms
abbrev pub values_in : (forms : List Form) → List Argument → Option (Values forms)
values_in [] [] = Some tt
values_in (form ∷ forms) (argument ∷ more) =
    option_and_then (λ value. option_map (λ values. (value, values)) (values_in forms more)) (value_in form argument)
values_in _ _ = None

-- what a call of the pattern carries, where the arguments are of it
abbrev pub carried_in : (pattern : Pattern) → List Argument → Option (Carries pattern)
carried_in (Just forms) arguments = values_in forms arguments
carried_in Ids arguments = ids_in arguments
carried_in Triples (Space space ∷ more) = option_map (λ list. (space, list)) (extents_in more)
carried_in Triples _ = None
carried_in Kinds arguments = option_map filter_excluding (kinds_in arguments)

-- the call of that kind with these arguments, where they are of its pattern
abbrev pub call_with : CallKind → List Argument → Option Call
call_with kind arguments = option_map (λ carried. (kind, carried)) (carried_in (pattern_of kind) arguments)

-- ---- the arguments of a call
-- an extent as a triple of numbers
abbrev pub triple_of : Extent → List Argument
triple_of e = Number e.inside ∷ Number e.outside ∷ Number e.length ∷ []

-- a value of the form as an argument
abbrev pub as_argument : (form : Form) → Value form → Argument
as_argument AnId n = Id n
as_argument ANumber n = Number n
as_argument ACap n = Cap n
as_argument ASet n = Set n
as_argument ASpace n = Space n
as_argument AWord deny = Word deny
as_argument AFile file = File file
as_argument AKind kind = Kind kind

-- values of these forms as arguments
abbrev pub as_arguments : (forms : List Form) → Values forms → List Argument
as_arguments [] values = []
as_arguments (form ∷ forms) values = as_argument form values.0 ∷ as_arguments forms values.1

-- what a call of the pattern carries, as arguments
abbrev pub carried_as : (pattern : Pattern) → Carries pattern → List Argument
carried_as (Just forms) values = as_arguments forms values
carried_as Ids ids = map Id ids
carried_as Triples carried = Space carried.0 ∷ flat_map triple_of carried.1
carried_as Kinds more = map Kind (excluded_kinds more)

-- the arguments of a call, in their order
abbrev pub arguments_of : Call → List Argument
arguments_of call = carried_as (pattern_of (kind_of call)) call.1
