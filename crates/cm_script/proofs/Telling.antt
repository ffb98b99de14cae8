-- The arguments of a call, as they are read, tell the call of the definitions.
use Rattle.std.proofs.Common.{◌≡◌, ℕ, suc, ◌+◌, ◌%◌, true, false, List, [], ◌∷◌, length, map, Option, Some, None}
use Rattle.std.proofs.Common.{Result, Ok, Err, refl, sym, ap, subst, ◌∙◌, arith, inl, inr}
use Rattle.std.proofs.lemmas.Bool.{eqb-true}
use Rattle.std.specs.Prelude.{option_map, flat_map, fold, ok_or}
use Rattle.std.specs.Result.{result_map_both}
use Rattle.cm_base.specs.declared.faults.LineFault.{LineFault}
use Rattle.cm_base.specs.declared.faults.LineFault.TheVariants as fault
use Rattle.cm_filter.specs.Filters.{Filter, excluding, filter_excluding, no_filter}
use Rattle.cm_filter.specs.declared.kind.CallKind.{CallKind}
use Rattle.cm_filter.specs.declared.kind.CallKind.TheVariants as kind
use Rattle.cm_filter.specs.declared.shape.Shape.{Shape}
use Rattle.cm_filter.specs.declared.shape.Shape.TheVariants.{Bare, ManyIds, ManyKinds, SpaceAndMap}
use Rattle.cm_filter.specs.Shapes.{Form, ANumber, Just, Ids, Triples, Kinds, arguments_by, pattern_of, shape_of}
use Rattle.model_cred.specs.Arguments.{Argument, Id, Number, Space, Kind, arguments_of, kinds_in, triple_of}
use Rattle.model_cred.specs.Call as model
use Rattle.model_cred.specs.Call.{Call, kind_of}
use Rattle.model_cred.specs.IdMap.{Extent}
use Rattle.model_cred.specs.World.{World}
use Rattle.model_text.proofs.BareCalls.{IsBare, installs_none}
use Rattle.model_text.proofs.ReadBack.{made_call}
use Rattle.model_text.specs.Arguments.{takes, form_at, argument_token}
use Rattle.model_text.specs.Line.{Tokens, arguments_from, argument_before, call_read, call_told}
use Rattle.model_text.specs.SpaceToken.{space_of_token}
use Rattle.model_text.specs.Token.{number_token, id_token, kind_token}
use Rattle.cm_tokens.proofs.Options.{cases_Option}
use Rattle.cm_script.specs.Lines.{IsTold}
use Rattle.cm_script.specs.declared.error.LineError.{LineError}
use Rattle.cm_script.specs.declared.error.LineError.TheVariants as error
use Rattle.cm_state.specs.Call.{call_of}
use Rattle.cm_script.specs.Steps.{and_then, and_make, taken, ids_told, kinds_told, extents_told, read_in}

-- ---- the call
-- Arguments that are read tell the call of the kind that has them; or the fault of one.
pub told_call : (w : World) (kind : CallKind) (shape : Shape) (tokens : Tokens) (arguments : List Argument) (call : Call)
    → shape_of kind ≡ shape → IsBare shape
    → arguments_from w (pattern_of kind) 0 tokens ≡ Ok arguments → kind_of call ≡ kind → arguments_of call ≡ arguments
    → read_in w kind tokens ≡ Ok call
told_call w kind shape tokens arguments call of_shape bare read is from =
    rw (read, made_call kind arguments call (installs_none kind call (subst IsBare (sym of_shape) bare) is) is from) refl

pub told_fault : (w : World) (kind : CallKind) (tokens : Tokens) (number : ℕ) → arguments_from w (pattern_of kind) 0 tokens ≡ Err number
    → read_in w kind tokens ≡ Err (fault.Argument number)
told_fault w kind tokens number read = rw read refl

-- what isn't read of a part with a fault
pub is_bad : {A B : Type 0} (show : A → B) (why : LineError) (bad : LineFault) (told : Result B LineFault) → why ≡ error.Bad bad → told ≡ Err bad
    → IsTold show (Err why) told
is_bad show why bad told is same = rw is same

-- the same of the argument of that number
pub is_fault : (w : World) (kind : CallKind) (tokens : Tokens) (number : ℕ) (why : LineError) → why ≡ error.Bad (fault.Argument number)
    → arguments_from w (pattern_of kind) 0 tokens ≡ Err number → IsTold call_of (Err why) (read_in w kind tokens)
is_fault w kind tokens number why is read = is_bad call_of why (fault.Argument number) (read_in w kind tokens) is (told_fault w kind tokens number read)

-- ---- a fixed number of arguments
-- none, where they are as many as a call has that has none
pub bare_read : (w : World) (kind : CallKind) (tokens : Tokens) → shape_of kind ≡ Bare → takes (pattern_of kind) (length tokens) ≡ true
    → arguments_from w (pattern_of kind) 0 tokens ≡ Ok []
bare_read w kind [] shape counted = refl
bare_read w kind (token ∷ tokens) shape counted =
    let counts : takes (arguments_by Bare) (length (token ∷ tokens)) ≡ true =
    subst (λ (s : Shape). takes (arguments_by s) (length (token ∷ tokens)) ≡ true) shape counted in
    absurd (omega (arith, eqb-true (length (token ∷ tokens)) 0 counts))

pub one_read : (w : World) (kind : CallKind) (tokens : Tokens) (form : Form) (t : List ℕ) (first : Option Argument)
    → pattern_of kind ≡ Just (form ∷ []) → tokens ≡ t ∷ [] → argument_token w form t ≡ first
    → arguments_from w (pattern_of kind) 0 tokens ≡ argument_before 1 first (Ok [])
one_read w kind tokens form t first pattern are read = rw (pattern, are, read) refl

pub two_read : (w : World) (kind : CallKind) (tokens : Tokens) (form other : Form) (t u : List ℕ) (first second : Option Argument)
    → pattern_of kind ≡ Just (form ∷ other ∷ []) → tokens ≡ t ∷ u ∷ []
    → argument_token w form t ≡ first → argument_token w other u ≡ second
    → arguments_from w (pattern_of kind) 0 tokens ≡ argument_before 1 first (argument_before 2 second (Ok []))
two_read w kind tokens form other t u first second pattern are read next = rw (pattern, are, read, next) refl

pub three_read : (w : World) (kind : CallKind) (tokens : Tokens) (form : Form) (t u v : List ℕ) (first second third : Option Argument)
    → pattern_of kind ≡ Just (form ∷ form ∷ form ∷ []) → tokens ≡ t ∷ u ∷ v ∷ []
    → argument_token w form t ≡ first → argument_token w form u ≡ second → argument_token w form v ≡ third
    → arguments_from w (pattern_of kind) 0 tokens
    ≡ argument_before 1 first (argument_before 2 second (argument_before 3 third (Ok [])))
three_read w kind tokens form t u v first second third pattern are read next last = rw (pattern, are, read, next, last) refl

-- ---- ids
-- the ids, as arguments
as_ids : Result (List ℕ) LineFault → Result (List Argument) LineFault
as_ids told = and_make (map Id) told

-- arguments, or the fault of the one that has that number
as_told : Result (List Argument) ℕ → Result (List Argument) LineFault
as_told read = result_map_both (λ arguments. arguments) fault.Argument read

-- arguments that are read so
told_ok : (read : Result (List Argument) ℕ) (arguments : List Argument) → Ok arguments ≡ as_told read → read ≡ Ok arguments
unfolding as_told
told_ok (Ok others) arguments same = let e : arguments ≡ others = cc in ap Ok (sym e)
told_ok (Err n) arguments same = absurd (cc)

told_err : (read : Result (List Argument) ℕ) (why : LineFault) → Err why ≡ as_told read → (n : ℕ) × (read ≡ Err n) × (why ≡ fault.Argument n)
unfolding as_told
told_err (Ok others) why same = absurd (cc)
told_err (Err n) why same = (n, refl, cc)

-- one id more in front of ids that are read so
id_before : (place id : ℕ) (told : Result (List ℕ) LineFault) (read : Result (List Argument) ℕ) → as_ids told ≡ as_told read
    → as_ids (and_make (λ (ids : List ℕ). id ∷ ids) told) ≡ as_told (argument_before (place + 1) (Some (Id id)) read)
unfolding as_ids as_told
id_before place id (Ok ids) (Ok arguments) same = ap (and_make (λ (arguments : List Argument). Id id ∷ arguments)) same
id_before place id (Err why) (Err n) same = same
id_before place id _ _ same = absurd (cc)

ids_from : (w : World) (place : ℕ) (tokens : Tokens) → as_ids (ids_told place tokens) ≡ as_told (arguments_from w Ids place tokens)
unfolding as_ids as_told
ids_from w place [] = refl
ids_from w place (t ∷ tokens) = by_first (id_token t) (ids_from w (place + 1) tokens)
  where
    by_first : (a : Option ℕ) → as_ids (ids_told (place + 1) tokens) ≡ as_told (arguments_from w Ids (place + 1) tokens)
        → as_ids (and_then (taken a place tokens) (λ (id : ℕ × Tokens). and_make (λ (ids : List ℕ). id.0 ∷ ids) (ids_told (place + 1) tokens)))
        ≡ as_told (argument_before (place + 1) (option_map Id a) (arguments_from w Ids (place + 1) tokens))
    by_first None rest = refl
    by_first (Some id) rest = id_before place id (ids_told (place + 1) tokens) (arguments_from w Ids (place + 1) tokens) rest

-- the call of ids that are read so
pub list_call : (w : World) (kind : CallKind) (tokens : Tokens) (ids : List ℕ) (call : Call) → shape_of kind ≡ ManyIds
    → ids_told 0 tokens ≡ Ok ids → kind_of call ≡ kind → arguments_of call ≡ map Id ids → read_in w kind tokens ≡ Ok call
unfolding as_ids
list_call w kind tokens ids call shape told is from =
    let read : arguments_from w Ids 0 tokens ≡ Ok (map Id ids) =
    told_ok (arguments_from w Ids 0 tokens) (map Id ids) (sym (ap (and_make (map Id)) told) ∙ ids_from w 0 tokens) in
    told_call w kind ManyIds tokens (map Id ids) call shape tt (ap (λ pattern. arguments_from w pattern 0 tokens) (ap arguments_by shape) ∙ read) is from

pub list_fault : (w : World) (kind : CallKind) (tokens : Tokens) (why : LineFault) → shape_of kind ≡ ManyIds
    → ids_told 0 tokens ≡ Err why → read_in w kind tokens ≡ Err why
unfolding as_ids
list_fault w kind tokens why shape told =
    let found = told_err (arguments_from w Ids 0 tokens) why (sym (ap (and_make (map Id)) told) ∙ ids_from w 0 tokens) in
    told_fault w kind tokens found.0 (ap (λ pattern. arguments_from w pattern 0 tokens) (ap arguments_by shape) ∙ found.1)
    ∙ ap Err (sym found.2)

-- what wasn't read of them
pub list_untold : {A : Type 0} (show : A → List ℕ) (w : World) (kind : CallKind) (tokens : Tokens) (why : LineError) → shape_of kind ≡ ManyIds
    → IsTold show (Err why) (ids_told 0 tokens) → IsTold call_of (Err why) (read_in w kind tokens)
list_untold show w kind tokens (error.Bad why) shape told = list_fault w kind tokens why shape told
list_untold show w kind tokens (error.Limit limit) shape told = told
list_untold show w kind tokens error.NoMemory shape told = tt

-- ---- kinds
-- the filter that arguments make with that filter, or the fault of the one that has that number
as_filter : Filter → Result (List Argument) ℕ → Result Filter LineFault
as_filter filter (Err n) = Err (fault.Argument n)
as_filter filter (Ok arguments) = ok_or (option_map (fold excluding filter) (kinds_in arguments)) fault.Count

-- one kind more in front
kind_before : (filter : Filter) (kind : CallKind) (number : ℕ) (read : Result (List Argument) ℕ)
    → as_filter (excluding filter kind) read ≡ as_filter filter (argument_before number (Some (Kind kind)) read)
unfolding as_filter
kind_before filter kind number (Err n) = refl
kind_before filter kind number (Ok arguments) = by (kinds_in arguments) where
  by : (kinds : Option (List CallKind)) → ok_or (option_map (fold excluding (excluding filter kind)) kinds) fault.Count
      ≡ ok_or (option_map (fold excluding filter) (option_map (λ (more : List CallKind). kind ∷ more) kinds)) fault.Count
  by None = refl
  by (Some kinds) = refl

kinds_from : (w : World) (filter : Filter) (place : ℕ) (tokens : Tokens) → kinds_told filter place tokens ≡ as_filter filter (arguments_from w Kinds place tokens)
unfolding as_filter
kinds_from w filter place [] = refl
kinds_from w filter place (t ∷ tokens) =
    by_first (kind_token t) (λ (kind : CallKind). kinds_from w (excluding filter kind) (place + 1) tokens) where
      by_first : (first : Option CallKind)
          → ((kind : CallKind) → kinds_told (excluding filter kind) (place + 1) tokens
          ≡ as_filter (excluding filter kind) (arguments_from w Kinds (place + 1) tokens))
          → and_then (taken first place tokens) (λ (kind : CallKind × Tokens). kinds_told (excluding filter kind.0) (place + 1) tokens)
          ≡ as_filter filter (argument_before (place + 1) (option_map Kind first) (arguments_from w Kinds (place + 1) tokens))
      by_first None rest = refl
      by_first (Some kind) rest =
          rest kind ∙ kind_before filter kind (place + 1) (arguments_from w Kinds (place + 1) tokens)

-- the install that they tell
install_read : (read : Result (List Argument) ℕ) → call_read kind.Install read ≡ and_make model.Install (as_filter no_filter read)
unfolding as_filter
install_read (Err n) = refl
install_read (Ok arguments) = by (kinds_in arguments) where
  by : (kinds : Option (List CallKind))
      → ok_or (option_map model.Install (option_map filter_excluding kinds)) fault.Count
      ≡ and_make model.Install (ok_or (option_map filter_excluding kinds) fault.Count)
  by None = refl
  by (Some kinds) = refl

only_install : (k : CallKind) → shape_of k ≡ ManyKinds → k ≡ kind.Install
only_install kind.Install is = refl
only_install _ is = absurd (cc)

kinds_read : (w : World) (kind : CallKind) (tokens : Tokens) → shape_of kind ≡ ManyKinds
    → read_in w kind tokens ≡ and_make model.Install (kinds_told no_filter 0 tokens)
kinds_read w kind tokens is =
    ap (λ (k : CallKind). read_in w k tokens) (only_install kind is)
    ∙ install_read (arguments_from w Kinds 0 tokens) ∙ sym (ap (and_make model.Install) (kinds_from w no_filter 0 tokens))

pub filter_call : (w : World) (kind : CallKind) (tokens : Tokens) (filter : Filter) (call : Call) → shape_of kind ≡ ManyKinds
    → kinds_told no_filter 0 tokens ≡ Ok filter → call ≡ model.Install filter → read_in w kind tokens ≡ Ok call
filter_call w kind tokens filter call shape told is =
    kinds_read w kind tokens shape ∙ ap (and_make model.Install) told ∙ ap (λ (c : Call). Ok c) (sym is)

-- what wasn't read of them
pub filter_untold : (w : World) (kind : CallKind) (tokens : Tokens) (why : LineError) → shape_of kind ≡ ManyKinds
    → IsTold (λ (filter : Filter). filter) (Err why) (kinds_told no_filter 0 tokens) → IsTold call_of (Err why) (read_in w kind tokens)
filter_untold w kind tokens (error.Bad why) shape told = kinds_read w kind tokens shape ∙ ap (and_make model.Install) told
filter_untold w kind tokens (error.Limit limit) shape told = told
filter_untold w kind tokens error.NoMemory shape told = tt

-- ---- extents
-- the extents, as arguments
as_triples : Result (List Extent) LineFault → Result (List Argument) LineFault
as_triples told = and_make (flat_map triple_of) told

-- one extent more in front of extents that are read so
triple_before : (p i o n : ℕ) (told : Result (List Extent) LineFault) (read : Result (List Argument) ℕ) → as_triples told ≡ as_told read
    → as_triples (and_make (λ (list : List Extent). record { inside = i; outside = o; length = n } ∷ list) told)
    ≡ as_told (argument_before (p + 1) (Some (Number i)) (argument_before (p + 2) (Some (Number o)) (argument_before (p + 3) (Some (Number n)) read)))
unfolding as_triples as_told
triple_before p i o n (Ok list) (Ok arguments) same =
    ap (and_make (λ (arguments : List Argument). Number i ∷ Number o ∷ Number n ∷ arguments)) same
triple_before p i o n (Err why) (Err m) same = same
triple_before p i o n _ _ same = absurd (cc)

-- places of an extent's numbers
suc_add : (p n : ℕ) → suc (p + n) ≡ suc p + n
suc_add p n = omega arith

two_more : (p : ℕ) → suc p + 1 + 1 ≡ suc p + 2
two_more p = omega arith

three_more : (p : ℕ) → suc p + 1 + 1 + 1 ≡ suc p + 3
three_more p = omega arith

one_after_two : (p : ℕ) → suc p + 2 + 1 ≡ suc p + 3
one_after_two p = omega arith

number_at : (p n : ℕ) → form_at Triples (suc p + n) ≡ ANumber
number_at p n = rw (← suc_add p n) refl

extents_from : (w : World) (p : ℕ) (tokens : Tokens) → length tokens % 3 ≡ 0
    → as_triples (extents_told (suc p) tokens) ≡ as_told (arguments_from w Triples (suc p) tokens)
unfolding as_triples as_told
extents_from w p [] even = refl
extents_from w p (a ∷ b ∷ c ∷ tokens) even =
    let rest : as_triples (extents_told (suc p + 3) tokens) ≡ as_told (arguments_from w Triples (suc p + 3) tokens) =
    rw (suc_add p 3) at (extents_from w (p + 3) tokens (omega arith)) in
    let second : form_at Triples (suc p + 1) ≡ ANumber = number_at p 1 in
    let third : form_at Triples (suc p + 1 + 1) ≡ ANumber = ap (form_at Triples) (two_more p) ∙ number_at p 2 in
    rw (third, second, three_more p, two_more p)
    (elim (cases_Option (number_token a)) [
      | inl none ↦ rw none refl
      | inr i ↦ elim (cases_Option (number_token b)) [
        | inl none ↦ rw (i.1, none) (ap (λ (n : ℕ). Err (fault.Argument n)) (two_more p))
        | inr o ↦ elim (cases_Option (number_token c)) [
          | inl none ↦ rw (i.1, o.1, none) (ap (λ (n : ℕ). Err (fault.Argument n)) (one_after_two p))
          | inr n ↦ rw (i.1, o.1, n.1)
              (triple_before (suc p) i.0 o.0 n.0 (extents_told (suc p + 3) tokens) (arguments_from w Triples (suc p + 3) tokens) rest)
        ]
      ]
    ])
extents_from w p (a ∷ _) even = absurd (cc)

-- the call of a space, and of extents that are read so
module _ (w : World) (kind : CallKind) (tokens : Tokens) (t : List ℕ) (more : Tokens) (shape : shape_of kind ≡ SpaceAndMap)
    (counted : takes (pattern_of kind) (length tokens) ≡ true) (are : tokens ≡ t ∷ more) where
  by_map : (read : Result (List Argument) ℕ) (space : Option ℕ) → space_of_token w.names t ≡ space → arguments_from w Triples 1 more ≡ read
      → arguments_from w (pattern_of kind) 0 tokens ≡ argument_before 1 (option_map Space space) read
  by_map read space spaced same =
      ap (λ pattern. arguments_from w pattern 0 tokens) (ap arguments_by shape) ∙ ap (λ all. arguments_from w Triples 0 all) are ∙ rw (spaced, same) refl

  whole : length more % 3 ≡ 0
  whole =
      let one : length (t ∷ more) % 3 ≡ 1 =
      eqb-true (length (t ∷ more) % 3) 1
      (ap (λ all. takes Triples (length all)) (sym are) ∙ ap (λ pattern. takes pattern (length tokens)) (sym (ap arguments_by shape)) ∙ counted) in
      omega (arith, one)

  pub map_call : (space : ℕ) (list : List Extent) (call : Call) → space_of_token w.names t ≡ Some space → extents_told 1 more ≡ Ok list
      → kind_of call ≡ kind → arguments_of call ≡ Space space ∷ flat_map triple_of list → read_in w kind tokens ≡ Ok call
  unfolding as_triples
  map_call space list call spaced told is from =
      let read : arguments_from w Triples 1 more ≡ Ok (flat_map triple_of list) =
      told_ok (arguments_from w Triples 1 more) (flat_map triple_of list) (sym (ap (and_make (flat_map triple_of)) told) ∙ extents_from w 0 more whole) in
      told_call w kind SpaceAndMap tokens (Space space ∷ flat_map triple_of list) call shape tt (by_map (Ok (flat_map triple_of list)) (Some space) spaced read) is from

  pub space_fault : space_of_token w.names t ≡ None → read_in w kind tokens ≡ Err (fault.Argument 1)
  space_fault spaced = told_fault w kind tokens 1 (by_map (arguments_from w Triples 1 more) None spaced refl)

  pub map_fault : (space : ℕ) (why : LineFault) → space_of_token w.names t ≡ Some space → extents_told 1 more ≡ Err why
      → read_in w kind tokens ≡ Err why
  unfolding as_triples
  map_fault space why spaced told =
      let found = told_err (arguments_from w Triples 1 more) why (sym (ap (and_make (flat_map triple_of)) told) ∙ extents_from w 0 more whole) in
      told_fault w kind tokens found.0 (by_map (Err found.0) (Some space) spaced found.1) ∙ ap Err (sym found.2)

  pub map_untold : {A : Type 0} (show : A → List Extent) (space : ℕ) (why : LineError) → space_of_token w.names t ≡ Some space
      → IsTold show (Err why) (extents_told 1 more) → IsTold call_of (Err why) (read_in w kind tokens)
  map_untold show space (error.Bad why) spaced told = map_fault space why spaced told
  map_untold show space (error.Limit limit) spaced told = told
  map_untold show space error.NoMemory spaced told = tt

-- ---- the counts
-- the same of the call that a line's arguments tell, and where they are another number
pub told_counted : (w : World) (kind : CallKind) (tokens : Tokens) → takes (pattern_of kind) (length tokens) ≡ true
    → call_told w kind tokens ≡ read_in w kind tokens
told_counted w kind tokens is = rw is refl

pub told_miscounted : (w : World) (kind : CallKind) (tokens : Tokens) → takes (pattern_of kind) (length tokens) ≡ false
    → call_told w kind tokens ≡ Err fault.Count
told_miscounted w kind tokens is = rw is refl
