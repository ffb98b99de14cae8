-- The results of calls as strace(1) writes them (the reading is a choice).
use Rattle.std.specs.Prelude.{ℕ, codes, ◌+◌, ◌==◌, bytes_eq, is_some, List, [], ◌∷◌, Option, Some, None, Result, Ok}
use Rattle.std.specs.Prelude.{Err, if◌then◌else◌}
use Rattle.std.specs.Prelude.{option_map}
use Rattle.cm_base.specs.Limits.{greatest_number}
use Rattle.cm_base.specs.Names.{errno_of}
use Rattle.cm_base.specs.Number.{read_decimal}
use Rattle.cm_base.specs.declared.errno.Errno.{Errno}
use Rattle.cm_base.specs.declared.number.BadNumber.{BadNumber}
use Rattle.cm_base.specs.declared.number.BadNumber.TheVariants.{NotNumber, TooLarge}
use Rattle.cm_base.specs.declared.res.Res.{Res}
use Rattle.cm_base.specs.declared.res.Res.TheVariants as res
use Rattle.model_cred.specs.Process.{as_pid}
use Rattle.model_strace.specs.Marks.{without_front, after_mark, name_at}
use Rattle.model_text.specs.Cut.{is_blank}

-- What a result is: of a call that didn't return, or that the kernel doesn't have; a number; an error that a log may tell;
-- another text.
pub data Outcome : Type 0 where
  NoReturn : Outcome
  Number : ℕ → Outcome
  Error : Errno → Outcome
  Other : Outcome

-- the numbers past the greatest one of 32 bits are told as one (choice)
abbrev pub past_greatest : ℕ
past_greatest = greatest_number + 1

-- the error of that name, where a log may tell it
abbrev pub known_error : Option Errno → Outcome
known_error None = Other
known_error (Some e) = Error e

-- the error of that name
abbrev pub error_named : List ℕ → Outcome
error_named name = if bytes_eq name (codes "ENOSYS") then NoReturn else known_error (errno_of name)

-- what follows `-1`: blanks, the name of an error, and anything
abbrev pub error_after : List ℕ → Outcome
error_after [] = Other
error_after (byte ∷ text) = if is_blank byte then error_named (name_at (without_front text)) else Other

-- the result of a text without `?` at its front, by what follows a `-1` there
abbrev pub minus_outcome : Option (List ℕ) → Outcome
minus_outcome None = Other
minus_outcome (Some text) = error_after text

-- the same by the number that the text spells
abbrev pub number_outcome : List ℕ → Result ℕ BadNumber → Outcome
number_outcome text (Ok n) = Number n
number_outcome text (Err TooLarge) = Number past_greatest
number_outcome text (Err NotNumber) = minus_outcome (after_mark (codes "-1") text)

-- what a result is
abbrev pub outcome_of : List ℕ → Outcome
outcome_of text = if is_some (after_mark (codes "?") text) then NoReturn else number_outcome text (read_decimal text)

-- ---- what calls may answer
-- a call that answers 0, or fails
abbrev pub plain_result : Outcome → Option Res
plain_result (Number n) = if n == 0 then Some res.Done else None
plain_result (Error e) = Some (res.Err e)
plain_result _ = None

-- a call that answers the id from before, and doesn't fail
abbrev pub id_result : Outcome → Option Res
id_result (Number n) = if n == past_greatest then None else Some (res.Id n)
id_result _ = None

-- a call that answers the pid of its child, or fails
abbrev pub birth_result : Outcome → Option Res
birth_result (Number n) = option_map res.Child (as_pid n)
birth_result (Error e) = Some (res.Err e)
birth_result _ = None

-- the number that a call which succeeds answers
abbrev pub success : Outcome → Option ℕ
success (Number n) = Some n
success _ = None
