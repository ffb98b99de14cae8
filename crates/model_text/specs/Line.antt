-- What a line of a script log stands for: PID CALL ARGUMENTS = RESULT (choice). Its faults are told in this order: `pid`,
-- `call`, `shape`, `count`, `argument N`, `result`.
use Rattle.std.specs.Prelude.{ℕ, ◌+◌, Bool, true, nat_le, length, List, [], ◌∷◌, Option, Some, None, if◌then◌else◌, option_map}
use Rattle.std.specs.Prelude.{Result, Ok, Err, ok_or}
use Rattle.cm_base.specs.declared.res.Res.{Res}
use Rattle.cm_base.specs.declared.faults.LineFault.{LineFault}
use Rattle.cm_base.specs.declared.faults.LineFault.TheVariants as fault
use Rattle.cm_base.specs.declared.limited.Limited.{Limited}
use Rattle.cm_base.specs.declared.limited.Limited.TheVariants as limit
use Rattle.cm_base.specs.Limited.{limit_number}
use Rattle.cm_filter.specs.declared.kind.CallKind.{CallKind}
use Rattle.cm_filter.specs.Kinds.{kind_named}
use Rattle.cm_filter.specs.Shapes.{ResultForm, DoneOrError, DoneAlone, OldId, ChildOrError, result_form}
use Rattle.model_cred.specs.Call.{Call, Event, SetGroups}
use Rattle.model_cred.specs.World.{World}
use Rattle.model_text.specs.Arguments.{Argument, Pattern, pattern_of, takes, form_at, argument_token, call_with}
use Rattle.model_text.specs.Cut.{tokens_of}
use Rattle.model_text.specs.Token.{pid_token, result_token, birth_token, old_id_token, done_token, is_comment, is_equals}

-- No event (blanks alone, or a comment); an event; a fault; a limit that is exceeded.
pub data Line : Type 0 where
  NoEvent : Line
  Tells : Event → Line
  Faulty : LineFault → Line
  Exceeds : Limited → Line

-- the tokens of a line, each its bytes
abbrev pub Tokens : Type 0
Tokens = List (List ℕ)

-- ---- the two parts after a call's name
-- The arguments, which stand before the first `=`, and the result, the one token after it.
pub record Parts : Type 0 where
  pub arguments : Tokens
  pub outcome : List ℕ

-- no arguments, and these tokens as the result, where they are one
abbrev pub outcome_alone : Tokens → Option Parts
outcome_alone (token ∷ []) = Some (record { arguments = []; outcome = token })
outcome_alone _ = None

-- one argument more in front
abbrev pub after_argument : List ℕ → Parts → Parts
after_argument token parts = record { arguments = token ∷ parts.arguments; outcome = parts.outcome }

-- the parts of these tokens: none where there is no `=`, or another number of tokens than one after the first
abbrev pub parts_of : Tokens → Option Parts
parts_of [] = None
parts_of (token ∷ tokens) = if is_equals token then outcome_alone tokens else option_map (after_argument token) (parts_of tokens)

-- ---- the arguments
-- one argument before others; or its number, where it isn't of its form
abbrev pub argument_before : ℕ → Option Argument → Result (List Argument) ℕ → Result (List Argument) ℕ
argument_before number None rest = Err number
argument_before number (Some argument) (Ok arguments) = Ok (argument ∷ arguments)
argument_before number (Some argument) (Err later) = Err later

-- what tokens stand for as arguments of the pattern, the first being that at the place; or the number, from 1 on, of the
-- first that isn't of its form
abbrev pub arguments_from : World → Pattern → ℕ → Tokens → Result (List Argument) ℕ
arguments_from w pattern place [] = Ok []
arguments_from w pattern place (token ∷ tokens) =
    argument_before (place + 1) (argument_token w (form_at pattern place) token) (arguments_from w pattern (place + 1) tokens)

-- the call of arguments, where they are read (arguments of the pattern always make one)
abbrev pub call_read : CallKind → Result (List Argument) ℕ → Result Call LineFault
call_read kind (Err number) = Err (fault.Argument number)
call_read kind (Ok arguments) = ok_or (call_with kind arguments) fault.Count

-- the call of that kind that tokens tell as its arguments
abbrev pub call_told : World → CallKind → Tokens → Result Call LineFault
call_told w kind tokens =
    if takes (pattern_of kind) (length tokens) then call_read kind (arguments_from w (pattern_of kind) 0 tokens) else Err fault.Count

-- ---- the result
-- the result of the form: done or an error; done alone; the id from before or EPERM; the child's pid or an error
abbrev pub result_of_form : ResultForm → List ℕ → Option Res
result_of_form DoneOrError token = result_token token
result_of_form DoneAlone token = done_token token
result_of_form OldId token = old_id_token token
result_of_form ChildOrError token = birth_token token

-- the result of a call of that kind
abbrev pub result_of_kind : CallKind → List ℕ → Option Res
result_of_kind kind token = result_of_form (result_form kind) token

-- ---- the line
-- a list of groups is within its limit
abbrev pub groups_fit : Call → Bool
groups_fit (SetGroups ids) = nat_le (length ids) (limit_number limit.Groups)
groups_fit _ = true

-- the event of a call with its result, where its groups are within their limit
abbrev pub told_line : ℕ → Call → Option Res → Line
told_line pid call None = Faulty fault.Outcome
told_line pid call (Some res) = if groups_fit call then Tells (record { pid = pid; call = call; res = res }) else Exceeds limit.Groups

-- the call, and then the token of its result
abbrev pub outcome_line : ℕ → CallKind → Result Call LineFault → List ℕ → Line
outcome_line pid kind (Err why) token = Faulty why
outcome_line pid kind (Ok call) token = told_line pid call (result_of_kind kind token)

-- the parts after a call's name
abbrev pub parts_line : World → ℕ → CallKind → Option Parts → Line
parts_line w pid kind None = Faulty fault.Shape
parts_line w pid kind (Some parts) = outcome_line pid kind (call_told w kind parts.arguments) parts.outcome

-- the tokens after the name of a call, which is none where it has no kind
abbrev pub kind_line : World → ℕ → Option CallKind → Tokens → Line
kind_line w pid None tokens = Faulty fault.Call
kind_line w pid (Some kind) tokens = parts_line w pid kind (parts_of tokens)

-- the tokens after the pid
abbrev pub call_line : World → ℕ → Tokens → Line
call_line w pid [] = Faulty fault.Call
call_line w pid (name ∷ tokens) = kind_line w pid (kind_named name) tokens

-- the tokens after the first one, which should be a pid
abbrev pub pid_line : World → Option ℕ → Tokens → Line
pid_line w None tokens = Faulty fault.Pid
pid_line w (Some pid) tokens = call_line w pid tokens

-- the tokens of a line
abbrev pub tokens_line : World → Tokens → Line
tokens_line w [] = NoEvent
tokens_line w (first ∷ tokens) = if is_comment first then NoEvent else pid_line w (pid_token first) tokens

-- the line
abbrev pub script_line : World → List ℕ → Line
script_line w line = tokens_line w (tokens_of line)
