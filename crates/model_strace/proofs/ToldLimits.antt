-- What a line tells, of a script or of a log of strace, exceeds no limit of a log's bytes or of a line's.
use Rattle.std.proofs.Common.{◌≡◌, ℕ, Bool, true, false, List, [], ◌∷◌}
use Rattle.std.proofs.Common.{Option, Some, None, Result, Ok, Err, refl, subst, if◌then◌else◌}
use Rattle.std.specs.Prelude.{bytes_eq, codes, ok_or, slice_get}
use Rattle.cm_base.specs.declared.faults.LineFault.{LineFault}
use Rattle.cm_base.specs.declared.faults.LineFault.TheVariants as fault
use Rattle.cm_base.specs.declared.limited.Limited.{Limited}
use Rattle.cm_base.specs.declared.limited.Limited.TheVariants as limit
use Rattle.cm_base.specs.declared.res.Res.{Res}
use Rattle.cm_base.specs.declared.res.Res.TheVariants as res
use Rattle.cm_filter.specs.declared.kind.CallKind.{CallKind}
use Rattle.cm_filter.specs.Kinds.{kind_named}
use Rattle.cm_lines.specs.declared.limits.Past.{Past}
use Rattle.cm_lines.specs.declared.limits.Past.TheVariants as past
use Rattle.model_cred.specs.Call as model
use Rattle.model_cred.specs.Call.{Call}
use Rattle.model_cred.specs.World.{World}
use Rattle.model_strace.specs.Calls as calls
use Rattle.model_strace.specs.Calls.{Listed, SetsIds, SetsGroups, SetsCaps, Prctl, Birth, Unshare, SetNs, Execve}
use Rattle.model_strace.specs.Calls.{ExecveAt, OpenFile, OpenAt, Creat, Close, Dup, DupTo, Fcntl, Write, Told, Nothing}
use Rattle.model_strace.specs.Calls.{Faulty, Does, Joins, Opens, Closes, Copies, CopiesTo, Writes, then_tells}
use Rattle.model_strace.specs.Calls.{where_some, read_argument, needed, deciding, text_of, number_of, with_result}
use Rattle.model_strace.specs.Calls.{plain_call, ids_result, ids_read, ids_of_length, groups_call}
use Rattle.model_strace.specs.Calls.{groups_told, own_header, caps_call, caps_told, number_told, capability_argument}
use Rattle.model_strace.specs.Calls.{cap_told, ambient_told, option_told, birth_with, birth_told}
use Rattle.model_strace.specs.Calls.{file_quoted, execve_told, execve_at, opening, dup_told, makes_copy, returned}
use Rattle.model_strace.specs.Calls.{outcome_told, written_told, listed_told, listed_named, call_told}
use Rattle.model_strace.specs.Flags.{birth_flags, has_flag}
use Rattle.model_strace.specs.Numbers.{securebits, sets_of}
use Rattle.model_strace.specs.Outcome.{Outcome, NoReturn, birth_result, plain_result, success, outcome_of}
use Rattle.model_strace.specs.Written.{Written, arguments_of, call_name, written_of}
use Rattle.model_text.specs.Line as text
use Rattle.model_text.specs.Line.{Tokens, groups_fit, call_line, call_told as call_read, kind_line, outcome_line, parts_line, parts_of, pid_line}
use Rattle.model_text.specs.Line.{result_of_kind, script_line, told_line, tokens_line}
use Rattle.model_text.specs.Reading.{limit_past}
use Rattle.model_text.specs.Token.{is_comment, number_token, pid_token}
use Rattle.model_text.specs.Cut.{tokens_of}

-- ---- limits
-- the limit is neither that of a log's bytes nor that of a line's
abbrev pub IsOther : Limited → Type 0
IsOther limit.Log = ⊥
IsOther limit.Line = ⊥
IsOther _ = Unit {0}

pub not_past : (past : Past) (l : Limited) → IsOther l → l ≡ limit_past past → ⊥
not_past past.Line l other is = subst IsOther is other
not_past past.Whole l other is = subst IsOther is other

-- ---- script lines
-- the limit that a line exceeds, if any, is another one
abbrev pub LineStops : text.Line → Type 0
LineStops (text.Exceeds l) = IsOther l
LineStops _ = Unit {0}

told_stops : (pid : ℕ) (call : Call) (answer : Option Res) → LineStops (told_line pid call answer)
told_stops pid call None = tt
told_stops pid call (Some answer) =
    let told : text.Line = text.Tells (record { pid = pid; call = call; res = answer }) in
    elim (groups_fit call) as (λ (b : Bool). LineStops (if b then told else text.Exceeds limit.Groups)) [
      | true ↦ tt
      | false ↦ tt
    ]

outcome_stops : (pid : ℕ) (kind : CallKind) (call : Result Call LineFault) (token : List ℕ) → LineStops (outcome_line pid kind call token)
outcome_stops pid kind (Err why) token = tt
outcome_stops pid kind (Ok call) token = told_stops pid call (result_of_kind kind token)

parts_stops : (w : World) (pid : ℕ) (kind : CallKind) (parts : Option text.Parts) → LineStops (parts_line w pid kind parts)
parts_stops w pid kind None = tt
parts_stops w pid kind (Some parts) = outcome_stops pid kind (call_read w kind parts.arguments) parts.outcome

kind_stops : (w : World) (pid : ℕ) (kind : Option CallKind) (tokens : Tokens) → LineStops (kind_line w pid kind tokens)
kind_stops w pid None tokens = tt
kind_stops w pid (Some kind) tokens = parts_stops w pid kind (parts_of tokens)

call_stops : (w : World) (pid : ℕ) (tokens : Tokens) → LineStops (call_line w pid tokens)
call_stops w pid [] = tt
call_stops w pid (name ∷ tokens) = kind_stops w pid (kind_named name) tokens

pid_stops : (w : World) (pid : Option ℕ) (tokens : Tokens) → LineStops (pid_line w pid tokens)
pid_stops w None tokens = tt
pid_stops w (Some pid) tokens = call_stops w pid tokens

tokens_stops : (w : World) (tokens : Tokens) → LineStops (tokens_line w tokens)
tokens_stops w [] = tt
tokens_stops w (first ∷ tokens) =
    elim (is_comment first) as (λ (b : Bool). LineStops (if b then text.NoEvent else pid_line w (pid_token first) tokens)) [
      | true ↦ tt
      | false ↦ pid_stops w (pid_token first) tokens
    ]

pub script_stops : (w : World) (line : List ℕ) (past : Past) → script_line w line ≡ text.Exceeds (limit_past past) → ⊥
script_stops w line past is = not_past past (limit_past past) (subst LineStops is (tokens_stops w (tokens_of line))) refl

-- ---- calls in a log of strace
-- the limit that a call tells, if any, is another one
abbrev pub ToldStops : Told → Type 0
ToldStops (calls.Exceeds l) = IsOther l
ToldStops _ = Unit {0}

then_stops : {A : Type 0} (r : Result A LineFault) (tells : A → Told) → ((x : A) → ToldStops (tells x)) → ToldStops (then_tells r tells)
then_stops (Ok x) tells each = each x
then_stops (Err why) tells each = tt

where_stops : {A : Type 0} (o : Option A) (tells : A → Told) → ((x : A) → ToldStops (tells x)) → ToldStops (where_some o tells)
where_stops None tells each = tt
where_stops (Some x) tells each = each x

if_told : (b : Bool) (x y : Told) → ToldStops x → ToldStops y → ToldStops (if b then x else y)
if_told true x y first second = first
if_told false x y first second = second

plain_stops : {A : Type 0} (outcome : Outcome) (value : Result A LineFault) (call : A → Call) → ToldStops (plain_call outcome value call)
plain_stops outcome value call =
    then_stops (ok_or (plain_result outcome) fault.Outcome) (λ r. then_tells value (λ v. Does (call v) r))
    (λ r. then_stops value (λ v. Does (call v) r) (λ v. tt))

groups_stops : (arguments : List (List ℕ)) (outcome : Outcome) → ToldStops (groups_told arguments outcome)
groups_stops arguments outcome =
    then_stops (ok_or (plain_result outcome) fault.Outcome)
    (λ r. then_tells (read_argument number_token 1 arguments) (λ n.
    then_tells (read_argument (ids_of_length n) 2 arguments) (λ ids. groups_call ids r)))
    (λ r. then_stops (read_argument number_token 1 arguments) (λ n.
    then_tells (read_argument (ids_of_length n) 2 arguments) (λ ids. groups_call ids r))
    (λ n. then_stops (read_argument (ids_of_length n) 2 arguments) (λ ids. groups_call ids r)
    (λ ids. if_told (groups_fit (model.SetGroups ids)) (Does (model.SetGroups ids) r) (calls.Exceeds limit.Groups) tt tt)))

caps_stops : (pid : ℕ) (arguments : List (List ℕ)) (outcome : Outcome) → ToldStops (caps_told pid arguments outcome)
caps_stops pid arguments outcome =
    then_stops (ok_or (plain_result outcome) fault.Outcome)
    (λ r. then_tells (read_argument (own_header pid) 1 arguments) (λ p.
    then_tells (read_argument sets_of 2 arguments) (λ sets. Does (caps_call sets) r)))
    (λ r. then_stops (read_argument (own_header pid) 1 arguments) (λ p.
    then_tells (read_argument sets_of 2 arguments) (λ sets. Does (caps_call sets) r))
    (λ p. then_stops (read_argument sets_of 2 arguments) (λ sets. Does (caps_call sets) r) (λ sets. tt)))

number_stops : (call : ℕ → Call) (arguments : List (List ℕ)) (outcome : Outcome) → ToldStops (number_told call arguments outcome)
number_stops call arguments outcome = plain_stops outcome (read_argument number_token 2 arguments) call

cap_stops : (call : ℕ → Call) (number : ℕ) (arguments : List (List ℕ)) (outcome : Outcome) → ToldStops (cap_told call number arguments outcome)
cap_stops call number arguments outcome = plain_stops outcome (capability_argument number arguments) call

result_stops : (outcome : Outcome) (call : Call) → ToldStops (with_result (plain_result outcome) (Does call))
result_stops outcome call = then_stops (ok_or (plain_result outcome) fault.Outcome) (Does call) (λ r. tt)

ambient_stops : (what : List ℕ) (arguments : List (List ℕ)) (outcome : Outcome) → ToldStops (ambient_told what arguments outcome)
ambient_stops what arguments outcome =
    if_told (bytes_eq what (codes "PR_CAP_AMBIENT_RAISE")) (cap_told model.AmbRaise 3 arguments outcome) _ (cap_stops model.AmbRaise 3 arguments outcome)
    (if_told (bytes_eq what (codes "PR_CAP_AMBIENT_LOWER")) (cap_told model.AmbLower 3 arguments outcome) _ (cap_stops model.AmbLower 3 arguments outcome)
    (if_told (bytes_eq what (codes "PR_CAP_AMBIENT_CLEAR_ALL")) (with_result (plain_result outcome) (Does model.AmbClear)) Nothing
    (result_stops outcome model.AmbClear) tt))

option_stops : (option : List ℕ) (arguments : List (List ℕ)) (outcome : Outcome) → ToldStops (option_told option arguments outcome)
option_stops option arguments outcome =
    if_told (bytes_eq option (codes "PR_SET_KEEPCAPS")) (number_told model.KeepCaps arguments outcome) _ (number_stops model.KeepCaps arguments outcome)
    (if_told (bytes_eq option (codes "PR_SET_NO_NEW_PRIVS")) (number_told model.NoNewPrivs arguments outcome) _
    (number_stops model.NoNewPrivs arguments outcome)
    (if_told (bytes_eq option (codes "PR_SET_SECUREBITS")) (plain_call outcome (read_argument securebits 2 arguments) model.SecureBits) _
    (plain_stops outcome (read_argument securebits 2 arguments) model.SecureBits)
    (if_told (bytes_eq option (codes "PR_CAPBSET_DROP")) (cap_told model.BsetDrop 2 arguments outcome) _ (cap_stops model.BsetDrop 2 arguments outcome)
    (if_told (bytes_eq option (codes "PR_CAP_AMBIENT")) (then_tells (deciding 2 arguments outcome) (λ what. ambient_told what arguments outcome)) Nothing
    (then_stops (deciding 2 arguments outcome) (λ what. ambient_told what arguments outcome) (λ what. ambient_stops what arguments outcome)) tt))))

birth_with_stops : (user shares : Bool) (r : Res) → ToldStops (birth_with user shares r)
birth_with_stops false shares (res.Err e) = tt
birth_with_stops user shares r = tt

birth_stops : (flags : List ℕ) (outcome : Outcome) → ToldStops (birth_told flags outcome)
birth_stops flags outcome =
    let user : Bool = has_flag (codes "CLONE_NEWUSER") flags in
    let shares : Bool = has_flag (codes "CLONE_FILES") flags in
    then_stops (ok_or (birth_result outcome) fault.Outcome) (birth_with user shares) (λ r. birth_with_stops user shares r)

execve_stops : (w : World) (number : ℕ) (arguments : List (List ℕ)) (outcome : Outcome) → ToldStops (execve_told w number arguments outcome)
execve_stops w number arguments outcome = plain_stops outcome (read_argument (file_quoted w) number arguments) model.Exec

execve_at_stops : (w : World) (folder : List ℕ) (arguments : List (List ℕ)) (outcome : Outcome) → ToldStops (execve_at w folder arguments outcome)
execve_at_stops w folder arguments outcome =
    if_told (bytes_eq folder (codes "AT_FDCWD")) (execve_told w 2 arguments outcome) _ (execve_stops w 2 arguments outcome)
    (where_stops (success outcome) (λ n. Faulty fault.Descriptor) (λ n. tt))

dup_stops : (arguments : List (List ℕ)) (outcome : Outcome) → ToldStops (dup_told arguments outcome)
dup_stops arguments outcome =
    where_stops (success outcome) (λ n. where_some (number_of 1 arguments) Copies) (λ n. where_stops (number_of 1 arguments) Copies (λ m. tt))

returned_stops : (w : World) (pid : ℕ) (call : Listed) (arguments : List (List ℕ)) (outcome : Outcome) → ToldStops (returned w pid call arguments outcome)
returned_stops w pid (SetsIds kind) arguments outcome =
    then_stops (ok_or (ids_result kind outcome) fault.Outcome) (λ r. then_tells (ids_read w kind arguments) (λ call. Does call r))
    (λ r. then_stops (ids_read w kind arguments) (λ call. Does call r) (λ call. tt))
returned_stops w pid SetsGroups arguments outcome = groups_stops arguments outcome
returned_stops w pid SetsCaps arguments outcome = caps_stops pid arguments outcome
returned_stops w pid Prctl arguments outcome =
    then_stops (deciding 1 arguments outcome) (λ option. option_told option arguments outcome) (λ option. option_stops option arguments outcome)
returned_stops w pid Birth arguments outcome = birth_stops (birth_flags arguments) outcome
returned_stops w pid Unshare arguments outcome =
    if_told (has_flag (codes "CLONE_NEWUSER") (text_of 1 arguments)) (with_result (plain_result outcome) (Does model.Unshare)) Nothing
    (result_stops outcome model.Unshare) tt
returned_stops w pid SetNs arguments outcome =
    then_stops (needed 1 arguments) (λ descriptor. then_tells (needed 2 arguments) (λ flags. Joins (number_token descriptor) flags outcome))
    (λ descriptor. then_stops (needed 2 arguments) (λ flags. Joins (number_token descriptor) flags outcome) (λ flags. tt))
returned_stops w pid Execve arguments outcome = execve_stops w 1 arguments outcome
returned_stops w pid ExecveAt arguments outcome =
    then_stops (deciding 1 arguments outcome) (λ folder. execve_at w folder arguments outcome) (λ folder. execve_at_stops w folder arguments outcome)
returned_stops w pid OpenFile arguments outcome =
    where_stops (success outcome) (Opens (opening (text_of 1 arguments) (text_of 2 arguments))) (λ n. tt)
returned_stops w pid OpenAt arguments outcome =
    where_stops (success outcome) (Opens (opening (text_of 2 arguments) (text_of 3 arguments))) (λ n. tt)
returned_stops w pid Creat arguments outcome =
    where_stops (success outcome) (Opens (opening (text_of 1 arguments) (codes "O_WRONLY"))) (λ n. tt)
returned_stops w pid Close arguments outcome =
    where_stops (success outcome) (λ n. where_some (number_of 1 arguments) Closes) (λ n. where_stops (number_of 1 arguments) Closes (λ m. tt))
returned_stops w pid Dup arguments outcome = dup_stops arguments outcome
returned_stops w pid DupTo arguments outcome = where_stops (success outcome) (CopiesTo (number_of 1 arguments)) (λ n. tt)
returned_stops w pid Fcntl arguments outcome =
    if_told (makes_copy (text_of 2 arguments)) (dup_told arguments outcome) Nothing (dup_stops arguments outcome) tt
returned_stops w pid Write arguments outcome =
    where_stops (number_of 1 arguments) (λ n. Writes n (slice_get arguments 1) outcome) (λ n. tt)

outcome_told_stops : (w : World) (pid : ℕ) (call : Listed) (arguments : List (List ℕ)) (outcome : Outcome)
    → ToldStops (outcome_told w pid call arguments outcome)
outcome_told_stops w pid call arguments NoReturn = tt
outcome_told_stops w pid call arguments outcome = returned_stops w pid call arguments outcome

written_stops : (w : World) (pid : ℕ) (call : Listed) (parts : Option Written) → ToldStops (written_told w pid call parts)
written_stops w pid call None = tt
written_stops w pid call (Some parts) = outcome_told_stops w pid call (arguments_of parts.inside) (outcome_of parts.result)

listed_stops : (w : World) (pid : ℕ) (call : Option Listed) (line : List ℕ) → ToldStops (listed_told w pid call line)
listed_stops w pid None line = tt
listed_stops w pid (Some call) line = written_stops w pid call (written_of line)

pub call_told_stops : (w : World) (pid : ℕ) (line : List ℕ) → ToldStops (call_told w pid line)
call_told_stops w pid line = listed_stops w pid (listed_named (call_name line)) line
