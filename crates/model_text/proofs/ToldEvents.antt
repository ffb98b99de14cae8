-- Each event that a script line tells over a world that a text declares is writable over it.
use Rattle.std.proofs.Common.{◌≡◌, ℕ, ◌+◌, ◌<◌, ◌≤◌, ◌==◌, Bool, ◌||◌, true, false, List, [], ◌∷◌, length, map}
use Rattle.std.proofs.Common.{Option, Some, None, Result, Ok, Err, IfSome, refl, sym, ap, ◌∙◌, arith, inl, inr, subst}
use Rattle.std.proofs.Common.{if◌then◌else◌, nat_le, All, IsTrue}
use Rattle.std.proofs.lemmas.Bool.{cases_Bool, cond_both, leb-true, or_from, false≢true}
use Rattle.std.proofs.lemmas.Iterator.Adapters.{position_from-zero}
use Rattle.std.proofs.lemmas.List.Elements.{All-nil, All-cons, All-head, All-tail, All-map, All-weaker}
use Rattle.std.proofs.lemmas.Option.{IfSome_then, same_Some}
use Rattle.std.specs.Prelude.{codes, bytes_eq, ok_or, option_map, flat_map}
use Rattle.std.specs.List.{list_any, position_from}
use Rattle.std.specs.Option.{option_or}
use Rattle.std.specs.Result.{result_ok}
use Rattle.cm_base.specs.CapSet.{IsCapSet}
use Rattle.cm_base.specs.Limited.{limit_number}
use Rattle.cm_base.specs.Limits.{greatest_number, minus_one}
use Rattle.cm_base.specs.Names.{cap_of, errno_name, errno_of}
use Rattle.cm_base.proofs.CapSets.{holds_none}
use Rattle.cm_base.specs.declared.errno.Errno.TheVariants.{EPERM}
use Rattle.cm_base.specs.Number.{is_number, value_of}
use Rattle.cm_base.specs.declared.faults.LineFault.{LineFault}
use Rattle.cm_base.specs.declared.faults.LineFault.TheVariants as fault
use Rattle.cm_base.specs.declared.limited.Limited.TheVariants as limit
use Rattle.cm_base.specs.declared.number.BadNumber.{BadNumber}
use Rattle.cm_base.specs.declared.number.BadNumber.TheVariants.{NotNumber, TooLarge}
use Rattle.cm_base.specs.declared.res.FileRef.{FileRef}
use Rattle.cm_base.specs.declared.res.FileRef.TheVariants.{Plain}
use Rattle.cm_base.specs.declared.res.Res.{Res}
use Rattle.cm_base.specs.declared.res.Res.TheVariants as res
use Rattle.cm_filter.specs.declared.kind.CallKind.{CallKind}
use Rattle.cm_filter.specs.declared.kind.CallKind.TheVariants as kind
use Rattle.cm_filter.specs.Kinds.{kind_named, kind_number}
use Rattle.cm_filter.specs.Shapes.{ResultForm, DoneOrError, DoneAlone, OldId, ChildOrError, Just, Ids, Triples, Kinds, result_form}
use Rattle.cm_filter.specs.Filters.{Filter, excludes, no_filter, filter_excluding, excluded_kinds}
use Rattle.cm_filter.proofs.Excluded.{excluding_filter, excluded_are, fold_excludes}
use Rattle.model_cred.specs.Call.{Call, Event, kind_of}
use Rattle.model_cred.specs.Files.{FileTable, IsDeclared, file_named, ref_of, row_named}
use Rattle.model_cred.specs.IdMap.{Extent}
use Rattle.model_cred.specs.Process.{is_pid, as_pid}
use Rattle.model_cred.specs.World.{World}
use Rattle.model_text.proofs.CapTexts.{if_there, if_then, if_mapped, if_either, named_is, text_is}
use Rattle.model_text.proofs.ReadBack.{lines_read_back}
use Rattle.model_text.proofs.Starts.{start_names}
use Rattle.model_text.proofs.Values.{named_within}
use Rattle.model_text.specs.Arguments.{Form, AnId, ANumber, ACap, ASet, ASpace, AWord, AFile, AKind, Pattern, form_at}
use Rattle.model_text.specs.Arguments.{pattern_of, takes}
use Rattle.model_text.specs.Arguments.{Argument, Id, Number, Cap, Set, Space, Word, File, Kind, argument_token, arguments_of}
use Rattle.model_text.specs.Arguments.{triple_of}
use Rattle.model_text.specs.Arguments.{call_with, ids_in, extents_in, kinds_in, value_in, values_in, carried_in}
use Rattle.model_text.specs.Arguments.{as_argument, as_arguments, carried_as}
use Rattle.model_cred.specs.Carried.{Carries}
use Rattle.model_text.specs.CapText.{set_of_text}
use Rattle.model_text.specs.Cut.{tokens_of}
use Rattle.model_text.specs.Line.{Line, NoEvent, Tells, Faulty, Exceeds, Tokens, Parts, parts_of, argument_before}
use Rattle.model_text.specs.Line.{arguments_from, call_read, call_told, result_of_form, result_of_kind, groups_fit}
use Rattle.model_text.specs.Line.{told_line, outcome_line, parts_line, kind_line, call_line, pid_line, tokens_line}
use Rattle.model_text.specs.Line.{script_line}
use Rattle.model_text.specs.NameText.{is_path}
use Rattle.model_text.specs.SpaceToken.{hash_number, number_named, space_of_token}
use Rattle.model_text.specs.Token.{birth_token, cap_token, done_token, file_token, id_token, is_comment, number_token}
use Rattle.model_text.specs.Token.{old_id_token, pid_token, kind_token, can_be_excluded, excludable, excluded_token}
use Rattle.model_text.specs.Token.{result_token, word_token}
use Rattle.model_text.specs.WorldText.{Reads, world_text}
use Rattle.model_text.specs.Written.{IsInRange, IsOutcome, IsBirth, IsOldId, IsOfForm, MayAnswer, CarriesFilter}
use Rattle.model_text.specs.Written.{InstallsFilter, IsWritable, LinesReadBack}
use Rattle.model_text.specs.Written.{ToldAreWritable, ToldReadBack}

-- ---- numbers, pids, capabilities, spaces
-- the number is one of 32 bits
abbrev pub Fits : ℕ → Type 0
Fits n = n ≤ greatest_number

pub number_fits : (text : List ℕ) → IfSome (number_token text) Fits
number_fits text =
    let value : ℕ = value_of 10 text in
    let spelled : Result ℕ BadNumber = if nat_le value greatest_number then Ok value else Err TooLarge in
    let IsGood : Result ℕ BadNumber → Type 0 = λ r. IfSome (result_ok r) Fits in
    cond_both (is_number 10 text) spelled (Err NotNumber) IsGood
    (λ _. cond_both (nat_le value greatest_number) (Ok value) (Err TooLarge) IsGood
    (λ low. leb-true value greatest_number low) (λ _. tt))
    (λ _. tt)

pub id_fits : (text : List ℕ) → IfSome (id_token text) Fits
id_fits text =
    cond_both (bytes_eq text (codes "-1")) (Some minus_one) (number_token text) (λ o. IfSome o Fits) (λ _. omega arith)
    (λ _. number_fits text)

pub pid_is : (text : List ℕ) → IfSome (pid_token text) (λ n. IsTrue (is_pid n))
pid_is text =
    if_then Fits (λ n. IsTrue (is_pid n)) as_pid (number_token text) (number_fits text)
    (λ n fits. cond_both (is_pid n) (Some n) None (λ o. IfSome o (λ n. IsTrue (is_pid n))) (λ is. is) (λ _. tt))

pub cap_fits : (text : List ℕ) → IfSome (cap_token text) Fits
cap_fits text =
    if_either Fits (cap_of text) (number_token text)
    (IfSome_then (cap_of text) (named_is text) (λ cap low. omega arith)) (number_fits text)

hash_fits : (text : List ℕ) → IfSome (hash_number text) Fits
hash_fits [] = tt
hash_fits (byte ∷ digits) =
    cond_both (byte == 35) (number_token digits) None (λ o. IfSome o Fits) (λ _. number_fits digits) (λ _. tt)

-- the spaces that have names are few enough for numbers of 32 bits
abbrev pub AreFew : World → Type 0
AreFew w = length w.names < greatest_number

space_fits : (w : World) (text : List ℕ) → AreFew w → IfSome (space_of_token w.names text) Fits
space_fits w text few =
    cond_both (bytes_eq text (codes "init")) (Some 0) (option_or (number_named 1 w.names text) (hash_number text))
    (λ o. IfSome o Fits)
    (λ _. omega arith)
    (λ _. if_either Fits (number_named 1 w.names text) (hash_number text)
    (IfSome_then (number_named 1 w.names text) (named_within 1 w.names text) (λ n below. omega arith))
    (hash_fits text))

-- ---- files
-- what is found is in the list
found_within : {A : Type 0} (p : A → Bool) (n : ℕ) (xs : List A) (i : ℕ) → position_from p n xs ≡ Some i
    → i < n + length xs
found_within p n [] i is = absurd (cc)
found_within p n (x ∷ xs) i is =
    elim (cases_Bool (p x)) [
      | inl here ↦ let same : n ≡ i = same_Some n i (rw here at is) in omega arith
      | inr later ↦ let below : i < n + 1 + length xs = found_within p (n + 1) xs i (rw later at is) in omega arith
    ]

ref_declared : (files : FileTable) (row : Option ℕ) → ((n : ℕ) → row ≡ Some n → n < length files.rows)
    → IsDeclared files (ref_of row)
ref_declared files None within = tt
ref_declared files (Some n) within = within n refl

pub named_declared : (files : FileTable) (path : List ℕ) → IsDeclared files (file_named files path)
named_declared files path =
    ref_declared files (row_named files.rows path)
    (λ n is. let below : n < 0 + length files.rows =
    found_within (λ row. bytes_eq row.path path) 0 files.rows n
    (sym (position_from-zero (λ row. bytes_eq row.path path) files.rows) ∙ is) in
    omega arith)

file_declared : (files : FileTable) (text : List ℕ) → IfSome (file_token files text) (IsDeclared files)
file_declared files text =
    let named : Option FileRef = if is_path text then Some (file_named files text) else None in
    let IsGood : Option FileRef → Type 0 = λ o. IfSome o (IsDeclared files) in
    cond_both (bytes_eq text (codes "-")) (Some Plain) named IsGood
    (λ _. tt)
    (λ _. cond_both (is_path text) (Some (file_named files text)) None IsGood (λ _. named_declared files text)
    (λ _. tt))

-- ---- names of calls
excludable_can : (named : Option CallKind) → IfSome (excludable named) (λ kind. IsTrue (can_be_excluded kind))
excludable_can None = tt
excludable_can (Some kind) =
    cond_both (can_be_excluded kind) (Some kind) None (λ o. IfSome o (λ kind. IsTrue (can_be_excluded kind))) (λ can. can) (λ _. tt)

-- ---- arguments
argument_fits : (w : World) (form : Form) (text : List ℕ) → AreFew w → IfSome (argument_token w form text) (IsInRange w)
argument_fits w AnId text few = if_mapped Fits (IsInRange w) Id (id_token text) (id_fits text) (λ n fits. fits)
argument_fits w ANumber text few =
    if_mapped Fits (IsInRange w) Number (number_token text) (number_fits text) (λ n fits. fits)
argument_fits w ACap text few = if_mapped Fits (IsInRange w) Cap (cap_token text) (cap_fits text) (λ n fits. fits)
argument_fits w ASet text few = if_mapped IsCapSet (IsInRange w) Set (set_of_text text) (text_is text) (λ n is. is)
argument_fits w ASpace text few =
    if_mapped Fits (IsInRange w) Space (space_of_token w.names text) (space_fits w text few) (λ n fits. fits)
argument_fits w AWord text few =
    if_mapped (λ deny. Unit {0}) (IsInRange w) Word (word_token text)
    (if_there (λ deny. Unit {0}) (word_token text) (λ deny _. tt)) (λ deny _. tt)
argument_fits w AFile text few =
    if_mapped (IsDeclared w.files) (IsInRange w) File (file_token w.files text) (file_declared w.files text)
    (λ file is. is)
argument_fits w AKind text few =
    if_mapped (λ kind. IsTrue (can_be_excluded kind)) (IsInRange w) Kind (kind_token text) (excludable_can (kind_named text)) (λ kind can. can)

-- one argument more before others
before_fits : (w : World) (number : ℕ) (first : Option Argument) (rest : Result (List Argument) ℕ) (arguments : List Argument)
    → IfSome first (IsInRange w) → ((more : List Argument) → rest ≡ Ok more → All (IsInRange w) more)
    → argument_before number first rest ≡ Ok arguments → All (IsInRange w) arguments
before_fits w number (Some argument) (Ok more) arguments one others is =
    let same : argument ∷ more ≡ arguments = cc in subst (All (IsInRange w)) same
    (All-cons (IsInRange w) argument more one (others more refl))
before_fits w number _ _ arguments one others is = absurd (cc)

pub arguments_fit : (w : World) (pattern : Pattern) (place : ℕ) (tokens : Tokens) (arguments : List Argument) → AreFew w
    → arguments_from w pattern place tokens ≡ Ok arguments → All (IsInRange w) arguments
arguments_fit w pattern place [] arguments few is =
    let same : [] ≡ arguments = cc in subst (All (IsInRange w)) same (All-nil (IsInRange w))
arguments_fit w pattern place (token ∷ tokens) arguments few is =
    before_fits w (place + 1) (argument_token w (form_at pattern place) token)
    (arguments_from w pattern (place + 1) tokens) arguments
    (argument_fits w (form_at pattern place) token few)
    (λ more there. arguments_fit w pattern (place + 1) tokens more few there) is

-- ---- calls
-- What is carried is in its ranges where the arguments are, of which it is made.
pub record IsMade (w : World) (pattern : Pattern) (arguments : List Argument) (carried : Carries pattern) : Type 0 where
  pub filter : CarriesFilter pattern carried
  pub fit : All (IsInRange w) arguments → All (IsInRange w) (carried_as pattern carried)

module _ (w : World) where
  -- ids, and triples of numbers, are those that they are read from
  ids_are : (arguments : List Argument) → IfSome (ids_in arguments) (λ ids. map Id ids ≡ arguments)
  ids_are [] = refl
  ids_are (Id n ∷ more) =
      if_mapped (λ ids. map Id ids ≡ more) (λ ids. map Id ids ≡ Id n ∷ more) (λ (ids : List ℕ). n ∷ ids) (ids_in more)
      (ids_are more)
      (λ ids same. ap (λ (list : List Argument). Id n ∷ list) same)
  ids_are (_ ∷ more) = tt

  extents_are : (arguments : List Argument) → IfSome (extents_in arguments) (λ list. flat_map triple_of list ≡ arguments)
  extents_are [] = refl
  extents_are (Number i ∷ Number o ∷ Number n ∷ more) =
      if_mapped (λ list. flat_map triple_of list ≡ more)
      (λ list. flat_map triple_of list ≡ Number i ∷ Number o ∷ Number n ∷ more)
      (λ (list : List Extent). record { inside = i; outside = o; length = n } ∷ list) (extents_in more) (extents_are more)
      (λ list same. ap (λ (others : List Argument). Number i ∷ Number o ∷ Number n ∷ others) same)
  extents_are _ = tt

  value_is : (form : Form) (argument : Argument) → IfSome (value_in form argument) (λ value. as_argument form value ≡ argument)
  value_is AnId (Id n) = refl
  value_is ANumber (Number n) = refl
  value_is ACap (Cap n) = refl
  value_is ASet (Set n) = refl
  value_is ASpace (Space n) = refl
  value_is AWord (Word deny) = refl
  value_is AFile (File file) = refl
  value_is AKind (Kind kind) = refl
  value_is _ _ = tt

  values_are : (forms : List Form) (arguments : List Argument) → IfSome (values_in forms arguments) (λ values. as_arguments forms values ≡ arguments)
  values_are [] [] = refl
  values_are (form ∷ forms) (argument ∷ more) =
      if_then (λ value. as_argument form value ≡ argument) (λ values. as_arguments (form ∷ forms) values ≡ argument ∷ more)
      (λ value. option_map (λ values. (value, values)) (values_in forms more)) (value_in form argument) (value_is form argument)
      (λ value same. if_mapped (λ values. as_arguments forms values ≡ more)
      (λ values. as_arguments (form ∷ forms) values ≡ argument ∷ more) (λ values. (value, values))
      (values_in forms more) (values_are forms more)
      (λ values others. rw (same, others) refl))
  values_are [] (argument ∷ more) = tt
  values_are (form ∷ forms) [] = tt

  kinds_are : (arguments : List Argument) → IfSome (kinds_in arguments) (λ kinds. map Kind kinds ≡ arguments)
  kinds_are [] = refl
  kinds_are (Kind k ∷ more) =
      if_mapped (λ kinds. map Kind kinds ≡ more) (λ kinds. map Kind kinds ≡ Kind k ∷ more) (λ (kinds : List CallKind). k ∷ kinds) (kinds_in more)
      (kinds_are more)
      (λ kinds same. ap (λ (list : List Argument). Kind k ∷ list) same)
  kinds_are (_ ∷ more) = tt

  -- the kinds of a filter that excludes just some kinds can be excluded where those can
  kinds_of_can : (kinds : List CallKind) → All (IsInRange w) (map Kind kinds) → All (IsInRange w) (map Kind (excluded_kinds (filter_excluding kinds)))
  kinds_of_can kinds all =
      let f : Filter = filter_excluding kinds in
      All-map (IsInRange w) Kind (excluded_kinds f)
      (All-weaker (λ k. excludes f k ≡ true) (λ k. IsInRange w (Kind k)) (λ k held. each k (among k held)) (excluded_kinds f)
      (excluded_are f)) where
        among : (k : CallKind) → excludes (filter_excluding kinds) k ≡ true → list_any (λ j. kind_number k == kind_number j) kinds ≡ true
        among k held =
            sym (fold_excludes no_filter kinds k ∙ ap (λ (b : Bool). b || list_any (λ j. kind_number k == kind_number j) kinds) (holds_none (kind_number k))) ∙ held

        other : (j : CallKind) → IsTrue (can_be_excluded j) → (kind_number kind.Exit == kind_number j) ≡ false
        other kind.Exit can = absurd (cc)
        other _ can = refl

        none : (list : List CallKind) → All (IsInRange w) (map Kind list) → list_any (λ j. kind_number kind.Exit == kind_number j) list ≡ false
        none [] given = refl
        none (j ∷ list) given =
            or_from (kind_number kind.Exit == kind_number j) (list_any (λ i. kind_number kind.Exit == kind_number i) list)
            (other j (All-head (IsInRange w) (Kind j) (map Kind list) given)) (none list (All-tail (IsInRange w) (Kind j) (map Kind list) given))

        each : (k : CallKind) → list_any (λ j. kind_number k == kind_number j) kinds ≡ true → IsTrue (can_be_excluded k)
        each kind.Exit some = absurd (false≢true (sym (none kinds all) ∙ some))
        each _ some = refl

  -- where the carried is written as the arguments, it is in its ranges where they are
  as_they : (pattern : Pattern) (arguments : List Argument) (carried : Carries pattern) → CarriesFilter pattern carried
      → carried_as pattern carried ≡ arguments → IsMade w pattern arguments carried
  as_they pattern arguments carried is same = record { filter = is; fit = λ all. subst (All (IsInRange w)) (sym same) all }

  pub carried_made : (pattern : Pattern) (arguments : List Argument) → IfSome (carried_in pattern arguments) (IsMade w pattern arguments)
  carried_made (Just forms) arguments =
      IfSome_then (values_in forms arguments) (values_are forms arguments) (λ values same. as_they (Just forms) arguments values tt same)
  carried_made Ids arguments = IfSome_then (ids_in arguments) (ids_are arguments) (λ ids same. as_they Ids arguments ids tt same)
  carried_made Triples (Space space ∷ more) =
      if_mapped (λ list. flat_map triple_of list ≡ more) (IsMade w Triples (Space space ∷ more)) (λ list. (space, list)) (extents_in more)
      (extents_are more)
      (λ list same. as_they Triples (Space space ∷ more) (space, list) tt (ap (λ (others : List Argument). Space space ∷ others) same))
  carried_made Triples _ = tt
  carried_made Kinds arguments =
      if_mapped (λ kinds. map Kind kinds ≡ arguments) (IsMade w Kinds arguments) filter_excluding (kinds_in arguments) (kinds_are arguments)
      (λ kinds same. record {
        filter = excluding_filter kinds;
        fit = λ all. kinds_of_can kinds (subst (All (IsInRange w)) (sym same) all);
      })

-- What a call that is told is: of the kind, its arguments in their ranges.
pub record IsCallOf (w : World) (kind : CallKind) (call : Call) : Type 0 where
  pub is : kind_of call ≡ kind
  pub fit : All (IsInRange w) (arguments_of call)
  pub filter : InstallsFilter call

pub calls_made : (w : World) (kind : CallKind) (arguments : List Argument) → All (IsInRange w) arguments
    → IfSome (call_with kind arguments) (IsCallOf w kind)
calls_made w kind arguments fit =
    if_mapped (IsMade w (pattern_of kind) arguments) (IsCallOf w kind) (λ carried. (kind, carried)) (carried_in (pattern_of kind) arguments)
    (carried_made w (pattern_of kind) arguments)
    (λ carried made. record { is = refl; fit = made.fit fit; filter = made.filter })

-- the call of arguments that are read
read_fits : (w : World) (kind : CallKind) (read : Result (List Argument) ℕ) (call : Call)
    → ((arguments : List Argument) → read ≡ Ok arguments → All (IsInRange w) arguments)
    → call_read kind read ≡ Ok call → IsCallOf w kind call
read_fits w kind (Err n) call fit is = absurd (cc)
read_fits w kind (Ok arguments) call fit is = by_made (call_with kind arguments) (calls_made w kind arguments (fit arguments refl)) is
  where
    by_made : (made : Option Call) → IfSome made (IsCallOf w kind) → ok_or made fault.Count ≡ Ok call → IsCallOf w kind call
    by_made None makes never = absurd (cc)
    by_made (Some other) makes same = let is_it : other ≡ call = cc in subst (IsCallOf w kind) is_it makes

told_fits : (w : World) (kind : CallKind) (tokens : Tokens) (call : Call) → AreFew w → call_told w kind tokens ≡ Ok call
    → IsCallOf w kind call
told_fits w kind tokens call few is =
    elim (cases_Bool (takes (pattern_of kind) (length tokens))) [
      | inl counted ↦ read_fits w kind (arguments_from w (pattern_of kind) 0 tokens) call
          (λ arguments there. arguments_fit w (pattern_of kind) 0 tokens arguments few there) (rw counted at is)
      | inr other ↦ absurd (cc (rw other at is))
    ]

-- ---- results
outcome_may : (text : List ℕ) → IfSome (result_token text) IsOutcome
outcome_may text =
    cond_both (bytes_eq text (codes "0")) (Some res.Done) (option_map res.Err (errno_of text)) (λ o. IfSome o IsOutcome)
    (λ _. tt)
    (λ _. if_mapped (λ e. Unit {0}) IsOutcome res.Err (errno_of text)
    (if_there (λ e. Unit {0}) (errno_of text) (λ e _. tt)) (λ e _. tt))

birth_may : (text : List ℕ) → IfSome (birth_token text) IsBirth
birth_may text =
    if_either IsBirth (option_map res.Child (pid_token text)) (option_map res.Err (errno_of text))
    (if_mapped (λ n. IsTrue (is_pid n)) IsBirth res.Child (pid_token text) (pid_is text) (λ n is. is))
    (if_mapped (λ e. Unit {0}) IsBirth res.Err (errno_of text) (if_there (λ e. Unit {0}) (errno_of text) (λ e _. tt))
    (λ e _. tt))

old_id_may : (text : List ℕ) → IfSome (old_id_token text) IsOldId
old_id_may text =
    if_either IsOldId (option_map res.Id (number_token text)) (excluded_token text)
    (if_mapped Fits IsOldId res.Id (number_token text) (number_fits text) (λ n fits. fits))
    (cond_both (bytes_eq text (errno_name EPERM)) (Some (res.Err EPERM)) None (λ o. IfSome o IsOldId) (λ _. refl) (λ _. tt))

done_may : (text : List ℕ) → IfSome (done_token text) (λ answer. answer ≡ res.Done)
done_may text =
    cond_both (bytes_eq text (codes "0")) (Some res.Done) None (λ o. IfSome o (λ answer. answer ≡ res.Done)) (λ _. refl)
    (λ _. tt)

form_may : (form : ResultForm) (text : List ℕ) → IfSome (result_of_form form text) (IsOfForm form)
form_may DoneOrError text = outcome_may text
form_may DoneAlone text = done_may text
form_may OldId text = old_id_may text
form_may ChildOrError text = birth_may text

result_may : (kind : CallKind) (text : List ℕ) → IfSome (result_of_kind kind text) (MayAnswer kind)
result_may kind text = form_may (result_form kind) text

-- ---- spaces of which this isn't known
-- the numbers of the spaces among the arguments are at most this
abbrev pub SpacesWithin : ℕ → List Argument → Type 0
SpacesWithin most [] = Unit {0}
SpacesWithin most (Space n ∷ arguments) = (n ≤ most) × SpacesWithin most arguments
SpacesWithin most (_ ∷ arguments) = SpacesWithin most arguments

-- they are numbers of 32 bits
abbrev pub SpacesFit : List Argument → Type 0
SpacesFit arguments = SpacesWithin greatest_number arguments

-- The event is writable, where those that it names have such numbers.
abbrev pub CanWrite : World → Event → Type 0
CanWrite w e = SpacesFit (arguments_of e.call) → IsWritable w e

-- ---- lines
-- each event that the line tells is writable
TellsWritable : World → Line → Type 0
TellsWritable w line = (e : Event) → line ≡ Tells e → IsWritable w e

silent : (w : World) (line : Line) → ((e : Event) → line ≡ Tells e → ⊥) → TellsWritable w line
unfolding TellsWritable
silent w line never e is = absurd (never e is)

tells_it : (w : World) (e : Event) → IsWritable w e → TellsWritable w (Tells e)
unfolding TellsWritable
tells_it w e can other is = let same : e ≡ other = cc in subst (IsWritable w) same can

line_writable : (w : World) (pid : ℕ) (kind : CallKind) (call : Call) (answer : Option Res) → IsTrue (is_pid pid)
    → IsCallOf w kind call
    → IfSome answer (MayAnswer kind) → TellsWritable w (told_line pid call answer)
line_writable w pid kind call None is fits may = silent w (Faulty fault.Outcome) (λ e is. absurd (cc))
line_writable w pid kind call (Some answer) is fits may =
    cond_both (groups_fit call) (Tells (record { pid = pid; call = call; res = answer })) (Exceeds limit.Groups)
    (TellsWritable w)
    (λ fit. tells_it w (record { pid = pid; call = call; res = answer })
    (record {
      pid = is;
      arguments = fits.fit;
      groups = fit;
      filter = fits.filter;
      result = subst (λ (k : CallKind). MayAnswer k answer)
          (sym fits.is) may;
    }))
    (λ _. silent w (Exceeds limit.Groups) (λ e is. absurd (cc)))

outcome_writable : (w : World) (pid : ℕ) (kind : CallKind) (told : Result Call LineFault) (text : List ℕ)
    → IsTrue (is_pid pid)
    → ((call : Call) → told ≡ Ok call → IsCallOf w kind call) → TellsWritable w (outcome_line pid kind told text)
outcome_writable w pid kind (Err why) text is fits = silent w (Faulty why) (λ e is. absurd (cc))
outcome_writable w pid kind (Ok call) text is fits =
    line_writable w pid kind call (result_of_kind kind text) is (fits call refl) (result_may kind text)

parts_writable : (w : World) (pid : ℕ) (kind : CallKind) (parts : Option Parts) → AreFew w → IsTrue (is_pid pid)
    → TellsWritable w (parts_line w pid kind parts)
parts_writable w pid kind None few is = silent w (Faulty fault.Shape) (λ e is. absurd (cc))
parts_writable w pid kind (Some parts) few is =
    outcome_writable w pid kind (call_told w kind parts.arguments) parts.outcome is
    (λ call told. told_fits w kind parts.arguments call few told)

kind_writable : (w : World) (pid : ℕ) (kind : Option CallKind) (tokens : Tokens) → AreFew w → IsTrue (is_pid pid)
    → TellsWritable w (kind_line w pid kind tokens)
kind_writable w pid None tokens few is = silent w (Faulty fault.Call) (λ e is. absurd (cc))
kind_writable w pid (Some kind) tokens few is = parts_writable w pid kind (parts_of tokens) few is

call_writable : (w : World) (pid : ℕ) (tokens : Tokens) → AreFew w → IsTrue (is_pid pid)
    → TellsWritable w (call_line w pid tokens)
call_writable w pid [] few is = silent w (Faulty fault.Call) (λ e is. absurd (cc))
call_writable w pid (name ∷ tokens) few is = kind_writable w pid (kind_named name) tokens few is

pid_writable : (w : World) (pid : Option ℕ) (tokens : Tokens) → AreFew w → IfSome pid (λ n. IsTrue (is_pid n))
    → TellsWritable w (pid_line w pid tokens)
pid_writable w None tokens few is = silent w (Faulty fault.Pid) (λ e is. absurd (cc))
pid_writable w (Some pid) tokens few is = call_writable w pid tokens few is

tokens_writable : (w : World) (tokens : Tokens) → AreFew w → TellsWritable w (tokens_line w tokens)
tokens_writable w [] few = silent w NoEvent (λ e is. absurd (cc))
tokens_writable w (first ∷ tokens) few =
    cond_both (is_comment first) NoEvent (pid_line w (pid_token first) tokens) (TellsWritable w)
    (λ _. silent w NoEvent (λ e is. absurd (cc)))
    (λ _. pid_writable w (pid_token first) tokens few (pid_is first))

pub told_is_writable : (w : World) (line : List ℕ) (e : Event) → AreFew w → script_line w line ≡ Tells e
    → IsWritable w e
unfolding TellsWritable
told_is_writable w line e few is = tokens_writable w (tokens_of line) few e is

-- a world that a text declares has few spaces
pub few_names : (bytes : List ℕ) (w : World) → world_text bytes ≡ Reads w → AreFew w
few_names bytes w reads =
    let few : length w.names + 1 ≤ limit_number limit.Spaces = start_names bytes w reads in omega arith

pub told_are_writable : ToldAreWritable
unfolding ToldAreWritable
told_are_writable bytes w line e reads told = told_is_writable w line e (few_names bytes w reads) told

pub told_read_back : ToldReadBack
unfolding ToldReadBack LinesReadBack ToldAreWritable
told_read_back bytes w line e reads told = lines_read_back bytes w e reads (told_are_writable bytes w line e reads told)
