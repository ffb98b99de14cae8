-- The table of the calls that a log of strace(1) is read for, and what a line of each tells, whatever processes and
-- descriptors stand (the reading is a choice; what each call does is said in its own manual page). The result is looked at
-- before the arguments, these from left to right; but an argument that decides whether the line tells anything comes first.
use Rattle.std.specs.Prelude.{ℕ, codes, ◌-◌, ◌+◌, ◌==◌, ◌||◌, Bool, false, bytes_eq, find, get_or, length, take, drop}
use Rattle.std.specs.Prelude.{slice_get, List, [], ◌∷◌}
use Rattle.std.specs.Prelude.{Option, Some, None, option_and_then, option_map, Result, Ok, Err, ok_or, if◌then◌else◌}
use Rattle.cm_base.specs.declared.faults.LineFault.{LineFault}
use Rattle.cm_base.specs.declared.faults.LineFault.TheVariants as fault
use Rattle.cm_base.specs.declared.limited.Limited.{Limited}
use Rattle.cm_base.specs.declared.limited.Limited.TheVariants as limit
use Rattle.cm_base.specs.declared.res.FileRef.{FileRef}
use Rattle.cm_base.specs.declared.res.Res.{Res}
use Rattle.cm_base.specs.declared.res.Res.TheVariants as res
use Rattle.cm_filter.specs.declared.kind.CallKind.{CallKind}
use Rattle.cm_filter.specs.declared.kind.CallKind.TheVariants as kind
use Rattle.model_cred.specs.Call as model
use Rattle.model_cred.specs.Call.{Call}
use Rattle.model_cred.specs.Files.{file_named}
use Rattle.model_cred.specs.World.{World}
use Rattle.model_strace.specs.Flags.{has_flag, birth_flags}
use Rattle.model_strace.specs.Numbers.{Sets, id_list, capability, securebits, header_pid, sets_of}
use Rattle.model_strace.specs.Outcome.{Outcome, NoReturn, Other, outcome_of, plain_result, id_result, birth_result, success}
use Rattle.model_strace.specs.Quoted.{quote_of, whole_text}
use Rattle.model_strace.specs.Written.{Written, call_name, written_of, arguments_of}
use Rattle.model_text.specs.Arguments.{Argument, Pattern, Just, pattern_of, call_with}
use Rattle.model_text.specs.Line.{arguments_from, groups_fit}
use Rattle.model_text.specs.Token.{number_token}

-- ---- the calls that are read
-- A call that is read: one of the eight that set ids, by its kind; the others by what their lines are read for.
pub data Listed : Type 0 where
  SetsIds : CallKind → Listed
  SetsGroups : Listed
  SetsCaps : Listed
  Prctl : Listed
  Birth : Listed
  Unshare : Listed
  SetNs : Listed
  Execve : Listed
  ExecveAt : Listed
  OpenFile : Listed
  OpenAt : Listed
  Creat : Listed
  Close : Listed
  Dup : Listed
  DupTo : Listed
  Fcntl : Listed
  Write : Listed

-- the calls that are read, by their names
abbrev pub listed_calls : List (List ℕ × Listed)
listed_calls =
    (codes "setuid", SetsIds kind.SetUid) ∷ (codes "setreuid", SetsIds kind.SetReUid)
    ∷ (codes "setresuid", SetsIds kind.SetResUid) ∷ (codes "setfsuid", SetsIds kind.SetFsUid)
    ∷ (codes "setgid", SetsIds kind.SetGid) ∷ (codes "setregid", SetsIds kind.SetReGid)
    ∷ (codes "setresgid", SetsIds kind.SetResGid) ∷ (codes "setfsgid", SetsIds kind.SetFsGid)
    ∷ (codes "setgroups", SetsGroups) ∷ (codes "capset", SetsCaps) ∷ (codes "prctl", Prctl)
    ∷ (codes "fork", Birth) ∷ (codes "vfork", Birth) ∷ (codes "clone", Birth) ∷ (codes "clone3", Birth)
    ∷ (codes "unshare", Unshare) ∷ (codes "setns", SetNs) ∷ (codes "execve", Execve) ∷ (codes "execveat", ExecveAt)
    ∷ (codes "open", OpenFile) ∷ (codes "openat", OpenAt) ∷ (codes "creat", Creat) ∷ (codes "close", Close)
    ∷ (codes "dup", Dup) ∷ (codes "dup2", DupTo) ∷ (codes "dup3", DupTo) ∷ (codes "fcntl", Fcntl)
    ∷ (codes "write", Write) ∷ (codes "pwrite64", Write) ∷ []

-- the call of that name, where it is read
abbrev pub listed_named : List ℕ → Option Listed
listed_named name = option_map (λ call. call.1) (find (λ call. bytes_eq call.0 name) listed_calls)

-- ---- what a line tells
-- The open of a file: its path, where that can be read, whether it is opened for writing, and whether an execve closes it
-- (open(2), O_CLOEXEC).
pub record Opening : Type 0 where
  pub path : Option (List ℕ)
  pub writes : Bool
  pub until_exec : Bool

-- What a line tells: nothing; a fault; a limit that is exceeded; a call with its result; a birth, in a new user namespace
-- or not, with the parent's descriptors shared or not (clone(2), CLONE_NEWUSER, CLONE_FILES); a setns on a descriptor, whose
-- number may be one that can't be read, with these flags; a file opened as that descriptor; that descriptor closed; copied;
-- one copied to that descriptor; that descriptor written to, where a text is given.
pub data Told : Type 0 where
  Nothing : Told
  Faulty : LineFault → Told
  Exceeds : Limited → Told
  Does : Call → Res → Told
  Bears : Bool → Bool → Res → Told
  Joins : Option ℕ → List ℕ → Outcome → Told
  Opens : Opening → ℕ → Told
  Closes : ℕ → Told
  Copies : ℕ → Told
  CopiesTo : Option ℕ → ℕ → Told
  Writes : ℕ → Option (List ℕ) → Outcome → Told

-- a value that is read, or a fault, and what the value tells
abbrev pub then_tells : {A : Type 0} → Result A LineFault → (A → Told) → Told
then_tells (Ok value) tells = tells value
then_tells (Err why) tells = Faulty why

-- a value that may not be there, and what it tells
abbrev pub where_some : {A : Type 0} → Option A → (A → Told) → Told
where_some None tells = Nothing
where_some (Some value) tells = tells value

-- ---- arguments, numbered from 1 on
-- the argument of that number as what its text is read for, or its fault
abbrev pub read_argument : {A : Type 0} → (List ℕ → Option A) → ℕ → List (List ℕ) → Result A LineFault
read_argument read number arguments = ok_or (option_and_then read (slice_get arguments (number - 1))) (fault.Argument number)

-- its text, or its fault where it is missing
abbrev pub needed : ℕ → List (List ℕ) → Result (List ℕ) LineFault
needed number arguments = ok_or (slice_get arguments (number - 1)) (fault.Argument number)

-- the fault where it is missing and decides what a call is: a result that is none comes first
abbrev pub lacking : Outcome → ℕ → LineFault
lacking Other number = fault.Outcome
lacking _ number = fault.Argument number

-- its text, or that fault
abbrev pub deciding : ℕ → List (List ℕ) → Outcome → Result (List ℕ) LineFault
deciding number arguments outcome = ok_or (slice_get arguments (number - 1)) (lacking outcome number)

-- its text, an empty one where it is missing
abbrev pub text_of : ℕ → List (List ℕ) → List ℕ
text_of number arguments = get_or arguments (number - 1) []

-- its number, where it is one
abbrev pub number_of : ℕ → List (List ℕ) → Option ℕ
number_of number arguments = number_token (text_of number arguments)

-- ---- results, and then arguments
-- a result that the call may have, and what it tells; another one is a fault
abbrev pub with_result : Option Res → (Res → Told) → Told
with_result result tells = then_tells (ok_or result fault.Outcome) tells

-- a call that answers 0 or fails, of a value that its arguments are read for
abbrev pub plain_call : {A : Type 0} → Outcome → Result A LineFault → (A → Call) → Told
plain_call outcome value call = with_result (plain_result outcome) (λ result. then_tells value (λ v. Does (call v) result))

-- ---- calls that set ids
-- the result of a call of that kind: setfsuid(2) and setfsgid(2) answer the id from before, and don't fail
abbrev pub ids_result : CallKind → Outcome → Option Res
ids_result kind.SetFsUid outcome = id_result outcome
ids_result kind.SetFsGid outcome = id_result outcome
ids_result _ outcome = plain_result outcome

-- how many arguments a call of that pattern has
abbrev pub argument_count : Pattern → ℕ
argument_count (Just forms) = length forms
argument_count _ = 0

-- the call of its arguments, or the number of the first that isn't an id, or is missing
abbrev pub ids_call : CallKind → Result (List Argument) ℕ → Result Call LineFault
ids_call kind (Err number) = Err (fault.Argument number)
ids_call kind (Ok ids) = ok_or (call_with kind ids) (fault.Argument (length ids + 1))

-- the call of the kind with these arguments
abbrev pub ids_read : World → CallKind → List (List ℕ) → Result Call LineFault
ids_read w kind arguments =
    ids_call kind (arguments_from w (pattern_of kind) 0 (take (argument_count (pattern_of kind)) arguments))

-- a line of the kind
abbrev pub ids_told : World → CallKind → List (List ℕ) → Outcome → Told
ids_told w kind arguments outcome =
    with_result (ids_result kind outcome) (λ result. then_tells (ids_read w kind arguments) (λ call. Does call result))

-- ---- setgroups(2): a length, and a list of so many ids
-- a list of that length
abbrev pub ids_of_length : ℕ → List ℕ → Option (List ℕ)
ids_of_length n text = option_and_then (λ ids. if length ids == n then Some ids else None) (id_list text)

-- the call, where its list is within its limit
abbrev pub groups_call : List ℕ → Res → Told
groups_call ids result = if groups_fit (model.SetGroups ids) then Does (model.SetGroups ids) result else Exceeds limit.Groups

-- a line of setgroups
abbrev pub groups_told : List (List ℕ) → Outcome → Told
groups_told arguments outcome =
    with_result (plain_result outcome) (λ result.
    then_tells (read_argument number_token 1 arguments) (λ n.
    then_tells (read_argument (ids_of_length n) 2 arguments) (λ ids. groups_call ids result)))

-- ---- capset(2): a header, and three sets
-- the process of a header that names 0, or the caller
abbrev pub own_header : ℕ → List ℕ → Option ℕ
own_header pid text = option_and_then (λ p. if p == 0 || p == pid then Some p else None) (header_pid text)

-- the call of three sets
abbrev pub caps_call : Sets → Call
caps_call sets = model.CapSet sets.effective sets.permitted sets.inheritable

-- a line of capset
abbrev pub caps_told : ℕ → List (List ℕ) → Outcome → Told
caps_told pid arguments outcome =
    with_result (plain_result outcome) (λ result.
    then_tells (read_argument (own_header pid) 1 arguments) (λ p.
    then_tells (read_argument sets_of 2 arguments) (λ sets. Does (caps_call sets) result)))

-- ---- prctl(2)
-- a call of the number that the second argument is
abbrev pub number_told : (ℕ → Call) → List (List ℕ) → Outcome → Told
number_told call arguments outcome = plain_call outcome (read_argument number_token 2 arguments) call

-- the capability that the argument of that number is, or its fault
abbrev pub capability_argument : ℕ → List (List ℕ) → Result ℕ LineFault
capability_argument number arguments = ok_or (capability (drop (number - 1) arguments)) (fault.Argument number)

-- a call of that capability
abbrev pub cap_told : (ℕ → Call) → ℕ → List (List ℕ) → Outcome → Told
cap_told call number arguments outcome = plain_call outcome (capability_argument number arguments) call

-- PR_CAP_AMBIENT, by its second argument
abbrev pub ambient_told : List ℕ → List (List ℕ) → Outcome → Told
ambient_told what arguments outcome =
    if bytes_eq what (codes "PR_CAP_AMBIENT_RAISE") then cap_told model.AmbRaise 3 arguments outcome
    else if bytes_eq what (codes "PR_CAP_AMBIENT_LOWER") then cap_told model.AmbLower 3 arguments outcome
    else if bytes_eq what (codes "PR_CAP_AMBIENT_CLEAR_ALL") then with_result (plain_result outcome) (Does model.AmbClear)
    else Nothing

-- by its first argument; other options tell nothing, whatever they answer
abbrev pub option_told : List ℕ → List (List ℕ) → Outcome → Told
option_told option arguments outcome =
    if bytes_eq option (codes "PR_SET_KEEPCAPS") then number_told model.KeepCaps arguments outcome
    else if bytes_eq option (codes "PR_SET_NO_NEW_PRIVS") then number_told model.NoNewPrivs arguments outcome
    else if bytes_eq option (codes "PR_SET_SECUREBITS")
    then plain_call outcome (read_argument securebits 2 arguments) model.SecureBits
    else if bytes_eq option (codes "PR_CAPBSET_DROP") then cap_told model.BsetDrop 2 arguments outcome
    else if bytes_eq option (codes "PR_CAP_AMBIENT")
    then then_tells (deciding 2 arguments outcome) (λ what. ambient_told what arguments outcome)
    else Nothing

-- a line of prctl
abbrev pub prctl_told : List (List ℕ) → Outcome → Told
prctl_told arguments outcome = then_tells (deciding 1 arguments outcome) (λ option. option_told option arguments outcome)

-- ---- births and user namespaces
-- fork(2), clone(2): a failed one in no new user namespace tells nothing
abbrev pub birth_with : Bool → Bool → Res → Told
birth_with false shares (res.Err e) = Nothing
birth_with user shares result = Bears user shares result

-- a birth with these flags
abbrev pub birth_told : List ℕ → Outcome → Told
birth_told flags outcome =
    with_result (birth_result outcome)
    (birth_with (has_flag (codes "CLONE_NEWUSER") flags) (has_flag (codes "CLONE_FILES") flags))

-- unshare(2): one that makes no user namespace tells nothing, whatever it answers
abbrev pub unshare_told : List ℕ → Outcome → Told
unshare_told flags outcome =
    if has_flag (codes "CLONE_NEWUSER") flags then with_result (plain_result outcome) (Does model.Unshare) else Nothing

-- setns(2)
abbrev pub setns_told : List (List ℕ) → Outcome → Told
setns_told arguments outcome =
    then_tells (needed 1 arguments) (λ descriptor.
    then_tells (needed 2 arguments) (λ flags. Joins (number_token descriptor) flags outcome))

-- ---- execve(2)
-- the file of a quoted path
abbrev pub file_quoted : World → List ℕ → Option FileRef
file_quoted w text = option_map (file_named w.files) (whole_text (quote_of text))

-- a line of execve, whose path is the argument of that number
abbrev pub execve_told : World → ℕ → List (List ℕ) → Outcome → Told
execve_told w number arguments outcome = plain_call outcome (read_argument (file_quoted w) number arguments) model.Exec

-- execveat(2): of the current folder it is execve; what another descriptor names isn't known
abbrev pub execve_at : World → List ℕ → List (List ℕ) → Outcome → Told
execve_at w folder arguments outcome =
    if bytes_eq folder (codes "AT_FDCWD") then execve_told w 2 arguments outcome
    else where_some (success outcome) (λ n. Faulty fault.Descriptor)

-- a line of execveat
abbrev pub execveat_told : World → List (List ℕ) → Outcome → Told
execveat_told w arguments outcome =
    then_tells (deciding 1 arguments outcome) (λ folder. execve_at w folder arguments outcome)

-- ---- descriptors: a call that fails tells nothing, nor does one of a number that can't be read
-- the open of a path with these flags
abbrev pub opening : List ℕ → List ℕ → Opening
opening path flags = record {
  path = whole_text (quote_of path);
  writes = has_flag (codes "O_WRONLY") flags || has_flag (codes "O_RDWR") flags;
  until_exec = has_flag (codes "O_CLOEXEC") flags;
}

-- open(2): the path stands as the argument of that number, the flags after it
abbrev pub open_told : ℕ → List (List ℕ) → Outcome → Told
open_told number arguments outcome =
    where_some (success outcome) (Opens (opening (text_of number arguments) (text_of (number + 1) arguments)))

-- creat is an open for writing
abbrev pub creat_told : List (List ℕ) → Outcome → Told
creat_told arguments outcome = where_some (success outcome) (Opens (opening (text_of 1 arguments) (codes "O_WRONLY")))

-- close(2)
abbrev pub close_told : List (List ℕ) → Outcome → Told
close_told arguments outcome = where_some (success outcome) (λ n. where_some (number_of 1 arguments) Closes)

-- dup(2)
abbrev pub dup_told : List (List ℕ) → Outcome → Told
dup_told arguments outcome = where_some (success outcome) (λ n. where_some (number_of 1 arguments) Copies)

-- dup2 and dup3 (dup(2)) answer the number of the copy
abbrev pub dup_to_told : List (List ℕ) → Outcome → Told
dup_to_told arguments outcome = where_some (success outcome) (CopiesTo (number_of 1 arguments))

-- the command makes a copy of a descriptor (fcntl(2), "Duplicating a file descriptor")
abbrev pub makes_copy : List ℕ → Bool
makes_copy command = bytes_eq command (codes "F_DUPFD") || bytes_eq command (codes "F_DUPFD_CLOEXEC")

-- fcntl(2)
abbrev pub fcntl_told : List (List ℕ) → Outcome → Told
fcntl_told arguments outcome = if makes_copy (text_of 2 arguments) then dup_told arguments outcome else Nothing

-- write(2), pwrite(2)
abbrev pub write_told : List (List ℕ) → Outcome → Told
write_told arguments outcome = where_some (number_of 1 arguments) (λ n. Writes n (slice_get arguments 1) outcome)

-- ---- the line
-- what a line of a call tells, by its arguments and its result
abbrev pub returned : World → ℕ → Listed → List (List ℕ) → Outcome → Told
returned w pid (SetsIds kind) arguments outcome = ids_told w kind arguments outcome
returned w pid SetsGroups arguments outcome = groups_told arguments outcome
returned w pid SetsCaps arguments outcome = caps_told pid arguments outcome
returned w pid Prctl arguments outcome = prctl_told arguments outcome
returned w pid Birth arguments outcome = birth_told (birth_flags arguments) outcome
returned w pid Unshare arguments outcome = unshare_told (text_of 1 arguments) outcome
returned w pid SetNs arguments outcome = setns_told arguments outcome
returned w pid Execve arguments outcome = execve_told w 1 arguments outcome
returned w pid ExecveAt arguments outcome = execveat_told w arguments outcome
returned w pid OpenFile arguments outcome = open_told 1 arguments outcome
returned w pid OpenAt arguments outcome = open_told 2 arguments outcome
returned w pid Creat arguments outcome = creat_told arguments outcome
returned w pid Close arguments outcome = close_told arguments outcome
returned w pid Dup arguments outcome = dup_told arguments outcome
returned w pid DupTo arguments outcome = dup_to_told arguments outcome
returned w pid Fcntl arguments outcome = fcntl_told arguments outcome
returned w pid Write arguments outcome = write_told arguments outcome

-- a call that doesn't return, or that the kernel doesn't have, tells nothing
abbrev pub outcome_told : World → ℕ → Listed → List (List ℕ) → Outcome → Told
outcome_told w pid call arguments NoReturn = Nothing
outcome_told w pid call arguments outcome = returned w pid call arguments outcome

-- the parts of a call that is read
abbrev pub written_told : World → ℕ → Listed → Option Written → Told
written_told w pid call None = Faulty fault.Shape
written_told w pid call (Some parts) = outcome_told w pid call (arguments_of parts.inside) (outcome_of parts.result)

-- a call that is read, or another one, which tells nothing, whatever it is
abbrev pub listed_told : World → ℕ → Option Listed → List ℕ → Told
listed_told w pid None text = Nothing
listed_told w pid (Some call) text = written_told w pid call (written_of text)

-- what the text of a call of a process tells
abbrev pub call_told : World → ℕ → List ℕ → Told
call_told w pid text = listed_told w pid (listed_named (call_name text)) text
