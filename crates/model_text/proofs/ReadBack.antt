-- What was written of an event is read again as the same event.
use Rattle.std.proofs.Common.{◌≡◌, ℕ, suc, ◌+◌, ◌*◌, ◌%◌, ◌<◌, ◌≤◌, Bool, true, false, List, [], ◌∷◌}
use Rattle.std.proofs.Common.{◌++◌, length, map, refl, ap, ◌∙◌, arith, All, IsTrue, append_assoc, length-append, sym, subst}
use Rattle.std.proofs.Common.{Option, Some, None, lit<, add-one, nat_lt}
use Rattle.std.proofs.lemmas.Bool.{cond-true, eq-eqb, ne_eqb, leb-true, ltb-true, and_parts}
use Rattle.std.proofs.lemmas.List.Elements.{All-head, All-tail, All-weaker}
use Rattle.std.specs.Prelude.{codes, decimal, Ok, option_map, flat_map, nat_le, get_or}
use Rattle.std.proofs.lemmas.List.{length-map}
use Rattle.std.specs.List.{list_all}
use Rattle.std.specs.Option.{option_or}
use Rattle.cm_base.proofs.Tables.{names_read_back}
use Rattle.cm_base.specs.CapSet.{IsCapSet}
use Rattle.cm_base.specs.Limits.{greatest_number, last_pid}
use Rattle.cm_base.specs.Names.{errno_name, errno_of}
use Rattle.cm_base.specs.Number.{is_digit}
use Rattle.cm_base.specs.declared.errno.Errno.{Errno}
use Rattle.cm_base.specs.declared.errno.Errno.TheVariants as errno
use Rattle.cm_base.specs.declared.res.Res.{Res}
use Rattle.cm_base.specs.declared.res.Res.TheVariants as res
use Rattle.cm_filter.specs.declared.kind.CallKind.{CallKind}
use Rattle.cm_filter.specs.declared.kind.CallKind.TheVariants as kind
use Rattle.cm_filter.specs.Kinds.{call_name, kind_named}
use Rattle.cm_filter.specs.Shapes.{ResultForm, DoneOrError, DoneAlone, OldId, ChildOrError, Just, result_form}
use Rattle.cm_filter.specs.Filters.{Filter, filter_excluding, excluded_kinds}
use Rattle.cm_filter.proofs.Excluded.{kinds_back}
use Rattle.model_cred.specs.Call.{Call, Event, kind_of}
use Rattle.model_cred.specs.Carried.{Value, Values, Carries}
use Rattle.model_cred.specs.IdMap.{Extent}
use Rattle.model_cred.specs.Process.{is_pid}
use Rattle.model_cred.specs.World.{World}
use Rattle.model_text.proofs.ArgumentTexts.{decimal_is_no_equals, id_is_no_equals, cap_written, word_is_token, word_is_no_equals, word_back}
use Rattle.model_text.proofs.DecimalTexts.{digits_of_decimal, decimal_token, number_back, id_is_token, id_back}
use Rattle.model_text.proofs.FileTexts.{file_written}
use Rattle.model_text.proofs.Found.{length_other}
use Rattle.model_text.proofs.HexTexts.{set_is_token, set_back, set_length}
use Rattle.model_text.proofs.KeepsNames.{declared_names_keep}
use Rattle.model_text.proofs.SpaceTexts.{space_written}
use Rattle.model_text.proofs.Tokens.{IsToken, token_alone, token_before, tokens_before}
use Rattle.model_text.specs.Arguments.{Form, AnId, ANumber, ACap, ASet, ASpace, AWord, AFile, AKind, Pattern, Ids, Triples, Kinds, pattern_of, takes, form_at}
use Rattle.model_text.specs.Arguments.{Argument, Id, Number, Cap, Set, Space, Word, File, Kind, argument_token}
use Rattle.model_text.specs.Arguments.{argument_text, extents_in, ids_in, kinds_in, call_with, triple_of, arguments_of}
use Rattle.model_text.specs.Arguments.{value_in, values_in, carried_in, as_argument, as_arguments, carried_as}
use Rattle.model_text.specs.Cut.{tokens_of}
use Rattle.model_text.specs.Line.{Tells, Tokens, parts_of, after_argument, arguments_from, call_told, groups_fit, result_of_form, result_of_kind, script_line, tokens_line}
use Rattle.model_text.specs.Print.{event_text}
use Rattle.model_text.specs.Token.{can_be_excluded, excludable, excluded_token}
use Rattle.model_text.specs.Token.{pid_token, result_token, birth_token, old_id_token, done_token, res_text, is_comment, is_equals}
use Rattle.model_text.specs.Written.{AreNames, ArePaths, KeepsNames, DeclaredNamesKeep, IsInRange, IsOutcome, IsBirth, IsOldId, IsOfForm, MayAnswer}
use Rattle.model_text.specs.Written.{CarriesFilter, InstallsFilter, IsWritable, LinesReadBack}

-- ---- names
-- The name of a call is a token, no `=`, and names the call's kind.
record KindWritten (kind : CallKind) : Type 0 where
  token : IsToken (call_name kind)
  plain : is_equals (call_name kind) ≡ false
  back : kind_named (call_name kind) ≡ Some kind

kind_written : (kind : CallKind) → KindWritten kind
kind_written kind.SetUid = record { token = record { some = lit< tt; short = lit< tt; plain = refl }; plain = refl; back = refl }
kind_written _ = record { token = record { some = lit< tt; short = lit< tt; plain = refl }; plain = refl; back = refl }

-- ---- single arguments
-- the form of an argument
abbrev form_of : Argument → Form
form_of (Id n) = AnId
form_of (Number n) = ANumber
form_of (Cap n) = ACap
form_of (Set n) = ASet
form_of (Space n) = ASpace
form_of (Word deny) = AWord
form_of (File file) = AFile
form_of (Kind kind) = AKind

-- What is written of an argument: a token, no `=`, which is read as the argument.
pub record Written (w : World) (argument : Argument) : Type 0 where
  pub token : IsToken (argument_text w argument)
  pub plain : is_equals (argument_text w argument) ≡ false
  pub back : argument_token w (form_of argument) (argument_text w argument) ≡ Some argument

-- an id, a number, a capability, a set and a word ask nothing of the world's names
pub id_written : (w : World) (n : ℕ) → n ≤ greatest_number → Written w (Id n)
id_written w n fits = record { token = id_is_token n fits; plain = id_is_no_equals n fits; back = ap (option_map Id) (id_back n fits) }

pub number_written : (w : World) (n : ℕ) → n ≤ greatest_number → Written w (Number n)
number_written w n fits =
    record { token = decimal_token n fits; plain = decimal_is_no_equals n fits; back = ap (option_map Number) (number_back n fits) }

pub cap_argument_written : (w : World) (n : ℕ) → n ≤ greatest_number → Written w (Cap n)
cap_argument_written w n fits =
    let cap = cap_written n fits in record { token = cap.token; plain = cap.plain; back = ap (option_map Cap) cap.back }

pub set_written : (w : World) (n : ℕ) → IsCapSet n → Written w (Set n)
set_written w n small = record {
  token = set_is_token n;
  plain = length_other (argument_text w (Set n)) (codes "=") (λ same. omega (arith, set_length n, same));
  back = ap (option_map Set) (set_back n small);
}

pub word_written : (w : World) (deny : Bool) → Written w (Word deny)
word_written w deny = record { token = word_is_token deny; plain = word_is_no_equals deny; back = ap (option_map Word) (word_back deny) }

pub kind_argument_written : (w : World) (kind : CallKind) → IsTrue (can_be_excluded kind) → Written w (Kind kind)
kind_argument_written w kind can = record {
  token = (kind_written kind).token;
  plain = (kind_written kind).plain;
  back = ap (option_map Kind) (ap excludable (kind_written kind).back ∙ cond-true (can_be_excluded kind) (Some kind) None can);
}

-- each argument, where the names and paths of the world are
written : (w : World) (argument : Argument) → AreNames w.names → ArePaths (map (λ row. row.path) w.files.rows) → IsInRange w argument → Written w argument
written w (Id n) names paths fits = id_written w n fits
written w (Number n) names paths fits = number_written w n fits
written w (Cap n) names paths fits = cap_argument_written w n fits
written w (Set n) names paths small = set_written w n small
written w (Space n) names paths fits =
    let space = space_written w.names n names fits in record { token = space.token; plain = space.plain; back = ap (option_map Space) space.back }
written w (Word deny) names paths _ = word_written w deny
written w (File file) names paths there =
    let named = file_written w.files file paths there in record { token = named.token; plain = named.plain; back = ap (option_map File) named.back }
written w (Kind kind) names paths can = kind_argument_written w kind can

-- ---- the parts after a call's name
-- arguments that aren't `=`, and a result after the `=`
parts_written : (w : World) (arguments : List Argument) (outcome : List ℕ) → All (Written w) arguments
    → parts_of (map (argument_text w) arguments ++ codes "=" ∷ outcome ∷ []) ≡ Some (record { arguments = map (argument_text w) arguments; outcome = outcome })
parts_written w [] outcome all = refl
parts_written w (argument ∷ arguments) outcome all =
    rw (All-head (Written w) argument arguments all).plain
    (ap (option_map (after_argument (argument_text w argument))) (parts_written w arguments outcome (All-tail (Written w) argument arguments all)))

-- ---- arguments of a pattern
-- the arguments are of the pattern's forms, the first being that at the place
abbrev Fit : Pattern → ℕ → List Argument → Type 0
Fit pattern place [] = Unit {0}
Fit pattern place (argument ∷ arguments) = (form_at pattern place ≡ form_of argument) × Fit pattern (place + 1) arguments

arguments_back : (w : World) (pattern : Pattern) (place : ℕ) (arguments : List Argument) → Fit pattern place arguments → All (Written w) arguments
    → arguments_from w pattern place (map (argument_text w) arguments) ≡ Ok arguments
arguments_back w pattern place [] fit all = refl
arguments_back w pattern place (argument ∷ arguments) fit all =
    let here : argument_token w (form_at pattern place) (argument_text w argument) ≡ Some argument =
    ap (λ (form : Form). argument_token w form (argument_text w argument)) fit.0 ∙ (All-head (Written w) argument arguments all).back in
    rw (here, arguments_back w pattern (place + 1) arguments fit.1 (All-tail (Written w) argument arguments all)) refl

-- ids, and triples of numbers
fit_ids : (place : ℕ) (ids : List ℕ) → Fit Ids place (map Id ids)
fit_ids place [] = tt
fit_ids place (id ∷ ids) = (refl, fit_ids (place + 1) ids)

fit_kinds : (place : ℕ) (kinds : List CallKind) → Fit Kinds place (map Kind kinds)
fit_kinds place [] = tt
fit_kinds place (kind ∷ kinds) = (refl, fit_kinds (place + 1) kinds)

fit_triples : (place : ℕ) (list : List Extent) → Fit Triples (suc place) (flat_map triple_of list)
fit_triples place [] = tt
fit_triples place (e ∷ list) = rw (add-one, add-one, add-one) (refl, (refl, (refl, fit_triples (suc (suc (suc place))) list)))

length_triples : (list : List Extent) → length (flat_map triple_of list) ≡ 3 * length list
length_triples [] = refl
length_triples (e ∷ list) = omega (arith, length_triples list)

pub ids_back : (ids : List ℕ) → ids_in (map Id ids) ≡ Some ids
ids_back [] = refl
ids_back (id ∷ ids) = ap (option_map (λ (ids : List ℕ). id ∷ ids)) (ids_back ids)

pub kinds_in_back : (kinds : List CallKind) → kinds_in (map Kind kinds) ≡ Some kinds
kinds_in_back [] = refl
kinds_in_back (kind ∷ kinds) = ap (option_map (λ (kinds : List CallKind). kind ∷ kinds)) (kinds_in_back kinds)

pub extents_back : (list : List Extent) → extents_in (flat_map triple_of list) ≡ Some list
extents_back [] = refl
extents_back (e ∷ list) = ap (option_map (λ (list : List Extent). e ∷ list)) (extents_back list)

-- ---- the arguments of each pattern
-- What a call of the pattern carries is written as arguments of the pattern, which are read as it.
record AreOf (pattern : Pattern) (carried : Carries pattern) : Type 0 where
  count : takes pattern (length (carried_as pattern carried)) ≡ true
  fit : Fit pattern 0 (carried_as pattern carried)
  made : carried_in pattern (carried_as pattern carried) ≡ Some carried

-- so many triples after a space
triples_counted : (argument : Argument) (list : List Extent) → takes Triples (length (argument ∷ flat_map triple_of list)) ≡ true
triples_counted argument list =
    let whole : length (argument ∷ flat_map triple_of list) ≡ 1 + 3 * length list = omega (arith, length_triples list) in
    rw whole (eq-eqb ((1 + 3 * length list) % 3) 1 (omega arith))

-- values as arguments
value_back : (form : Form) (value : Value form) → value_in form (as_argument form value) ≡ Some value
value_back AnId n = refl
value_back _ n = refl

form_as : (form : Form) (value : Value form) → form_of (as_argument form value) ≡ form
form_as AnId n = refl
form_as _ n = refl

values_count : (forms : List Form) (values : Values forms) → length (as_arguments forms values) ≡ length forms
values_count [] values = refl
values_count (form ∷ forms) values = omega (arith, values_count forms values.1)

values_back : (forms : List Form) (values : Values forms) → values_in forms (as_arguments forms values) ≡ Some values
values_back [] values = refl
values_back (form ∷ forms) values = rw (value_back form values.0, values_back forms values.1) refl

-- the form at the place after others
form_after : (front : List Form) (form : Form) (forms : List Form) → get_or (front ++ form ∷ forms) (length front) ANumber ≡ form
form_after [] form forms = refl
form_after (other ∷ front) form forms = form_after front form forms

fit_values : (front forms : List Form) (values : Values forms) → Fit (Just (front ++ forms)) (length front) (as_arguments forms values)
fit_values front [] values = tt
fit_values front (form ∷ forms) values =
    let rest : Fit (Just ((front ++ form ∷ []) ++ forms)) (length (front ++ form ∷ [])) (as_arguments forms values.1) =
    fit_values (front ++ form ∷ []) forms values.1 in
    let long : length (front ++ form ∷ []) ≡ length front + 1 = length-append front (form ∷ []) in
    let same : (front ++ form ∷ []) ++ forms ≡ front ++ form ∷ forms = append_assoc front (form ∷ []) forms in
    let moved : Fit (Just (front ++ form ∷ forms)) (length (front ++ form ∷ [])) (as_arguments forms values.1) =
    subst (λ (all : List Form). Fit (Just all) (length (front ++ form ∷ [])) (as_arguments forms values.1)) same rest in (
      form_after front form forms ∙ sym (form_as form values.0),
      subst (λ (place : ℕ). Fit (Just (front ++ form ∷ forms)) place (as_arguments forms values.1)) long moved,
    )

are_of : (pattern : Pattern) (carried : Carries pattern) → CarriesFilter pattern carried → AreOf pattern carried
are_of (Just forms) values is = record {
  count = eq-eqb (length (as_arguments forms values)) (length forms) (values_count forms values);
  fit = fit_values [] forms values;
  made = values_back forms values;
}
are_of Ids ids is = record { count = refl; fit = fit_ids 0 ids; made = ids_back ids }
are_of Triples carried is = record {
  count = triples_counted (Space carried.0) carried.1;
  fit = (refl, fit_triples 0 carried.1);
  made = ap (option_map (λ list. (carried.0, list))) (extents_back carried.1);
}
are_of Kinds more is = record {
  count = refl;
  fit = fit_kinds 0 (excluded_kinds more);
  made = ap (option_map filter_excluding) (kinds_in_back (excluded_kinds more)) ∙ ap (λ (f : Filter). Some f) (kinds_back more is);
}

-- the arguments of a call of the kind make the call
pub made_call : (kind : CallKind) (arguments : List Argument) (call : Call) → InstallsFilter call → kind_of call ≡ kind
    → arguments_of call ≡ arguments → call_with kind arguments ≡ Some call
made_call kind arguments call filter is from =
    rw (← is, ← from) (ap (option_map (λ carried. (kind_of call, carried))) (are_of (pattern_of (kind_of call)) call.1 filter).made)

-- ---- errors
-- The name of an error is a token, and neither a number nor `0`.
record ErrorWritten (e : Errno) : Type 0 where
  token : IsToken (errno_name e)
  number : pid_token (errno_name e) ≡ None
  done : done_token (errno_name e) ≡ None
  back : result_token (errno_name e) ≡ Some (res.Err e)

error_written : (e : Errno) → ErrorWritten e
error_written errno.EPERM = record { token = record { some = lit< tt; short = lit< tt; plain = refl }; number = refl; done = refl; back = refl }
error_written _ = record { token = record { some = lit< tt; short = lit< tt; plain = refl }; number = refl; done = refl; back = refl }

-- ---- results
-- What is written of a result, read by this.
record ResultWritten (read : List ℕ → Option Res) (answer : Res) : Type 0 where
  token : IsToken (res_text answer)
  back : read (res_text answer) ≡ Some answer

-- a pid is one, as a number
pid_back : (pid : ℕ) → IsTrue (is_pid pid) → pid_token (decimal pid) ≡ Some pid
pid_back pid is =
    let high : pid ≤ last_pid = leb-true pid last_pid (and_parts (nat_le 1 pid) (nat_le pid last_pid) is).1 in
    rw (number_back pid (omega arith), is) refl

pid_fits : (pid : ℕ) → IsTrue (is_pid pid) → pid ≤ greatest_number
pid_fits pid is = let high : pid ≤ last_pid = leb-true pid last_pid (and_parts (nat_le 1 pid) (nat_le pid last_pid) is).1 in omega arith

old_id_written : (answer : Res) → IsOldId answer → ResultWritten old_id_token answer
old_id_written (res.Id n) fits = record {
  token = decimal_token n fits;
  back = ap (λ (found : Option ℕ). option_or (option_map res.Id found) (excluded_token (decimal n))) (number_back n fits);
}
old_id_written (res.Err e) is = rw is (record { token = (error_written errno.EPERM).token; back = refl })
old_id_written _ never = absurd never

birth_written : (answer : Res) → IsBirth answer → ResultWritten birth_token answer
birth_written (res.Child pid) is = record {
  token = decimal_token pid (pid_fits pid is);
  back = ap (λ (found : Option ℕ). option_or (option_map res.Child found) (option_map res.Err (errno_of (decimal pid)))) (pid_back pid is);
}
birth_written (res.Err e) _ = record {
  token = (error_written e).token;
  back =
      ap (λ (found : Option ℕ). option_or (option_map res.Child found) (option_map res.Err (errno_of (errno_name e)))) (error_written e).number
      ∙ ap (option_map res.Err) (names_read_back.error e);
}
birth_written _ never = absurd never

outcome_written : (answer : Res) → IsOutcome answer → ResultWritten result_token answer
outcome_written res.Done _ = record { token = record { some = lit< tt; short = lit< tt; plain = refl }; back = refl }
outcome_written (res.Err e) _ = record { token = (error_written e).token; back = (error_written e).back }
outcome_written _ never = absurd never

done_written : (answer : Res) → answer ≡ res.Done → ResultWritten done_token answer
done_written answer is = rw is (record { token = record { some = lit< tt; short = lit< tt; plain = refl }; back = refl })

form_written : (form : ResultForm) (answer : Res) → IsOfForm form answer → ResultWritten (result_of_form form) answer
form_written DoneOrError answer may = outcome_written answer may
form_written DoneAlone answer may = done_written answer may
form_written OldId answer may = old_id_written answer may
form_written ChildOrError answer may = birth_written answer may

result_written : (kind : CallKind) (answer : Res) → MayAnswer kind answer → ResultWritten (result_of_kind kind) answer
result_written kind answer may = form_written (result_form kind) answer may

-- ---- the line
-- the tokens of the line
line_tokens : (w : World) (e : Event) → IsToken (decimal e.pid) → All (Written w) (arguments_of e.call) → IsToken (res_text e.res)
    → tokens_of (event_text w e)
    ≡ decimal e.pid ∷ call_name (kind_of e.call) ∷ map (argument_text w) (arguments_of e.call) ++ codes "=" ∷ res_text e.res ∷ []
unfolding event_text
line_tokens w e pid all result =
    let name : List ℕ = call_name (kind_of e.call) in
    let arguments : List Argument = arguments_of e.call in
    let rest : List ℕ = codes "=" ++ 32 ∷ res_text e.res in
    let are : All (λ argument. IsToken (argument_text w argument)) arguments =
    All-weaker (Written w) (λ argument. IsToken (argument_text w argument)) (λ argument one. one.token) arguments all in
    simp append_assoc
    (token_before (decimal e.pid) (name ++ (flat_map (λ argument. 32 ∷ argument_text w argument) arguments ++ 32 ∷ rest)) pid
    ∙ ap (λ (tokens : Tokens). decimal e.pid ∷ tokens)
    (tokens_before (argument_text w) name arguments rest (kind_written (kind_of e.call)).token are
    ∙ ap (λ (tokens : Tokens). name ∷ map (argument_text w) arguments ++ tokens)
    (token_before (codes "=") (res_text e.res) (record { some = lit< tt; short = lit< tt; plain = refl })
    ∙ ap (λ (tokens : Tokens). codes "=" ∷ tokens) (token_alone (res_text e.res) result))))

-- a number begins no comment
no_comment : (digits : List ℕ) → list_all (is_digit 10) digits ≡ true → is_comment digits ≡ false
no_comment [] all = refl
no_comment (d ∷ digits) all =
    let low : d < 58 = ltb-true d 58 (and_parts (nat_le 48 d) (nat_lt d 58) (and_parts (is_digit 10 d) (list_all (is_digit 10) digits) all).0).1 in
    ne_eqb d 59 (λ same. omega arith)

-- the arguments make their call
call_back : (w : World) (call : Call) → InstallsFilter call → All (Written w) (arguments_of call)
    → call_told w (kind_of call) (map (argument_text w) (arguments_of call)) ≡ Ok call
call_back w call is all =
    let make : AreOf (pattern_of (kind_of call)) call.1 = are_of (pattern_of (kind_of call)) call.1 is in
    rw (length-map, make.count, arguments_back w (pattern_of (kind_of call)) 0 (arguments_of call) make.fit all, make.made) refl

-- An event that is read again as it is written: its arguments are, its pid and its result are in their ranges, and its
-- groups are within their limit.
pub record IsReadBack (w : World) (e : Event) : Type 0 where
  pub pid : IsTrue (is_pid e.pid)
  pub arguments : All (Written w) (arguments_of e.call)
  pub groups : IsTrue (groups_fit e.call)
  pub filter : InstallsFilter e.call
  pub result : MayAnswer (kind_of e.call) e.res

-- the tokens of a line tell the event
tokens_back : (w : World) (e : Event) → IsReadBack w e
    → tokens_line w (decimal e.pid ∷ call_name (kind_of e.call) ∷ map (argument_text w) (arguments_of e.call) ++ codes "=" ∷ res_text e.res ∷ [])
    ≡ Tells e
tokens_back w e can =
    let pid : List ℕ = decimal e.pid in
    let plain : is_comment pid ≡ false = no_comment pid (digits_of_decimal e.pid (pid_fits e.pid can.pid)).each in
    rw (
      plain,
      pid_back e.pid can.pid,
      (kind_written (kind_of e.call)).back,
      parts_written w (arguments_of e.call) (res_text e.res) can.arguments,
      call_back w e.call can.filter can.arguments,
      (result_written (kind_of e.call) e.res can.result).back,
      can.groups,
    ) refl

-- Such an event is told by the line that is written of it, whatever the names and paths of the world.
pub own_event_read_back : (w : World) (e : Event) → IsReadBack w e → script_line w (event_text w e) ≡ Tells e
own_event_read_back w e can =
    ap (tokens_line w)
    (line_tokens w e (decimal_token e.pid (pid_fits e.pid can.pid)) can.arguments (result_written (kind_of e.call) e.res can.result).token)
    ∙ tokens_back w e can

-- The tokens that are written of an event.
pub record TokensWritten (w : World) (e : Event) : Type 0 where
  pub pid : IsToken (decimal e.pid)
  pub name : IsToken (call_name (kind_of e.call))
  pub arguments : All (Written w) (arguments_of e.call)
  pub result : IsToken (res_text e.res)

pub tokens_written : (w : World) (e : Event) → KeepsNames w → IsWritable w e → TokensWritten w e
tokens_written w e keeps can = record {
  pid = decimal_token e.pid (pid_fits e.pid can.pid);
  name = (kind_written (kind_of e.call)).token;
  arguments =
      All-weaker (IsInRange w) (Written w) (λ argument fits. written w argument keeps.names keeps.paths fits) (arguments_of e.call) can.arguments;
  result = (result_written (kind_of e.call) e.res can.result).token;
}

-- What was written of an event is read again as the same event, where the names and paths of the world are.
pub event_read_back : (w : World) (e : Event) → KeepsNames w → IsWritable w e → script_line w (event_text w e) ≡ Tells e
event_read_back w e keeps can =
    own_event_read_back w e (record {
      pid = can.pid;
      arguments = (tokens_written w e keeps can).arguments;
      groups = can.groups;
      filter = can.filter;
      result = can.result;
    })

pub lines_read_back : LinesReadBack
unfolding LinesReadBack DeclaredNamesKeep
lines_read_back bytes w e reads can = event_read_back w e (declared_names_keep bytes w reads) can
