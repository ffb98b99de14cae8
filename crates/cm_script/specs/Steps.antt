-- The parts after a call's name, as they are read from left to right: the arguments up to the first `=`, lists of them one
-- by one, and the result. The lemmas of `proofs` tie these words to those of the definitions.
use Rattle.std.specs.Prelude.{ℕ, ◌+◌, List, [], ◌∷◌, Option, Some, None, Result, Ok, Err, if◌then◌else◌}
use Rattle.std.specs.Result.{result_map_both}
use Rattle.cm_base.specs.declared.faults.LineFault.{LineFault}
use Rattle.cm_base.specs.declared.faults.LineFault.TheVariants as fault
use Rattle.cm_filter.specs.Filters.{Filter, excluding}
use Rattle.cm_filter.specs.declared.kind.CallKind.{CallKind}
use Rattle.cm_filter.specs.Shapes.{pattern_of}
use Rattle.model_cred.specs.Call.{Call}
use Rattle.model_cred.specs.IdMap.{Extent}
use Rattle.model_cred.specs.World.{World}
use Rattle.model_text.specs.Cut.{tokens_of}
use Rattle.model_text.specs.Line.{Tokens, arguments_from, call_read}
use Rattle.model_text.specs.Token.{number_token, id_token, kind_token, is_equals}

-- ---- the two parts
-- the tokens before the first `=`
abbrev pub before_equals : Tokens → Tokens
before_equals [] = []
before_equals (token ∷ tokens) = if is_equals token then [] else token ∷ before_equals tokens

-- the arguments in a text
abbrev pub arguments_in : List ℕ → Tokens
arguments_in text = before_equals (tokens_of text)

-- the only one of the tokens
abbrev pub only_one : Tokens → Option (List ℕ)
only_one (token ∷ []) = Some token
only_one _ = None

-- the only one after the first `=`
abbrev pub outcome_of : Tokens → Option (List ℕ)
outcome_of [] = None
outcome_of (token ∷ tokens) = if is_equals token then only_one tokens else outcome_of tokens

-- ---- one argument after the other
-- the next step, where this one gives something
abbrev pub and_then : {A B : Type 0} → Result A LineFault → (A → Result B LineFault) → Result B LineFault
and_then (Ok x) next = next x
and_then (Err why) next = Err why

-- what is made of what a step gives
abbrev pub and_make : {A B : Type 0} → (A → B) → Result A LineFault → Result B LineFault
and_make make told = result_map_both make (λ why. why) told

-- what an argument stands for, where it stands for something, and the arguments after it
abbrev pub taken : {A : Type 0} → Option A → ℕ → Tokens → Result (A × Tokens) LineFault
taken None place tokens = Err (fault.Argument (place + 1))
taken (Some x) place tokens = Ok (x, tokens)

-- what the argument at a place, from 0 on, stands for, and the arguments after it
abbrev pub next_told : {A : Type 0} → (List ℕ → Option A) → ℕ → Tokens → Result (A × Tokens) LineFault
next_told read place [] = Err (fault.Argument (place + 1))
next_told read place (token ∷ tokens) = taken (read token) place tokens

-- the ids of arguments, the first being that at the place
abbrev pub ids_told : ℕ → Tokens → Result (List ℕ) LineFault
ids_told place [] = Ok []
ids_told place (token ∷ tokens) =
    and_then (taken (id_token token) place tokens) (λ id. and_make (λ ids. id.0 ∷ ids) (ids_told (place + 1) tokens))

-- the filter that excludes also the kinds of arguments, the first being that at the place
abbrev pub kinds_told : Filter → ℕ → Tokens → Result Filter LineFault
kinds_told filter place [] = Ok filter
kinds_told filter place (token ∷ tokens) =
    and_then (taken (kind_token token) place tokens) (λ kind. kinds_told (excluding filter kind.0) (place + 1) tokens)

-- an extent of three numbers, the first being the argument at the place, and the arguments after them
abbrev pub extent_told : ℕ → Tokens → Result (Extent × Tokens) LineFault
extent_told place tokens =
    and_then (next_told number_token place tokens) (λ i.
    and_then (next_told number_token (place + 1) i.1) (λ o.
    and_make (λ n. (record { inside = i.0; outside = o.0; length = n.0 }, n.1)) (next_told number_token (place + 2) o.1)))

-- the same where there are arguments at all
abbrev pub extent_or_end : ℕ → Tokens → Result (Option (Extent × Tokens)) LineFault
extent_or_end place [] = Ok None
extent_or_end place (token ∷ tokens) = and_make Some (extent_told place (token ∷ tokens))

-- the extents of triples of arguments, the first being that at the place
abbrev pub extents_told : ℕ → Tokens → Result (List Extent) LineFault
extents_told place [] = Ok []
extents_told place (a ∷ b ∷ c ∷ tokens) =
    and_then (extent_told place (a ∷ b ∷ c ∷ tokens)) (λ e. and_make (λ list. e.0 ∷ list) (extents_told (place + 3) tokens))
extents_told place tokens = and_make (λ e. e.0 ∷ []) (extent_told place tokens)

-- ---- the calls
-- the call of that kind that the arguments tell, where they are as many as a call of the kind may have
abbrev pub read_in : World → CallKind → Tokens → Result Call LineFault
read_in w kind tokens = call_read kind (arguments_from w (pattern_of kind) 0 tokens)
