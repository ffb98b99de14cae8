-- Single tokens of a script line: what they stand for, and how it is written (choice).
use Rattle.std.specs.Prelude.{ℕ, Bool, true, false, codes, decimal, bytes_eq, List, [], ◌∷◌, ◌==◌, Option, Some, None, if◌then◌else◌}
use Rattle.std.specs.Prelude.{option_and_then, option_map, slice_get, unwrap_or}
use Rattle.std.specs.Option.{option_or}
use Rattle.std.specs.Result.{result_ok}
use Rattle.cm_base.specs.Limits.{minus_one}
use Rattle.cm_base.specs.Number.{read_decimal}
use Rattle.cm_base.specs.Names.{cap_name, cap_of, errno_name, errno_of}
use Rattle.cm_base.specs.declared.errno.Errno.TheVariants.{EPERM}
use Rattle.cm_base.specs.declared.res.Res.{Res}
use Rattle.cm_base.specs.declared.res.Res.TheVariants.{Done, Id, Child, Err}
use Rattle.cm_base.specs.declared.res.FileRef.{FileRef}
use Rattle.cm_base.specs.declared.res.FileRef.TheVariants.{Row, Plain}
use Rattle.cm_filter.specs.Kinds.{kind_named}
use Rattle.cm_filter.specs.declared.kind.CallKind.{CallKind}
use Rattle.cm_filter.specs.declared.kind.CallKind.TheVariants as kind
use Rattle.model_cred.specs.Files.{FileTable, file_named}
use Rattle.model_cred.specs.Process.{as_pid}
use Rattle.model_text.specs.NameText.{is_path}

-- ---- numbers and ids
-- a number: decimal digits, leading zeros allowed, of at most 4294967295
abbrev pub number_token : List ℕ → Option ℕ
number_token text = result_ok (read_decimal text)

-- a pid: a number from 1 to 4194304
abbrev pub pid_token : List ℕ → Option ℕ
pid_token text = option_and_then as_pid (number_token text)

-- an id: a number, or -1
abbrev pub id_token : List ℕ → Option ℕ
id_token text = if bytes_eq text (codes "-1") then Some minus_one else number_token text

-- an id is written as a number, or as -1
abbrev pub id_text : ℕ → List ℕ
id_text id = if id == minus_one then codes "-1" else decimal id

-- ---- capabilities
-- a capability: its name, or a number, whether or not there is such a capability
abbrev pub cap_token : List ℕ → Option ℕ
cap_token text = option_or (cap_of text) (number_token text)

-- a capability is written by its name, or by its number where there is none
abbrev pub cap_name_or_number : ℕ → List ℕ
cap_name_or_number cap = unwrap_or (cap_name cap) (decimal cap)

-- ---- the words of a setgroups file
-- the word is "deny", or "allow"
abbrev pub word_token : List ℕ → Option Bool
word_token text = if bytes_eq text (codes "allow") then Some false else if bytes_eq text (codes "deny") then Some true else None

-- the word of a space's setgroups file, as it is written
abbrev pub word_text : Bool → List ℕ
word_text deny = if deny then codes "deny" else codes "allow"

-- ---- files
-- a file: `-` for the plain one, or a path, which names its row, or the plain file where it isn't declared
abbrev pub file_token : FileTable → List ℕ → Option FileRef
file_token files text = if bytes_eq text (codes "-") then Some Plain else if is_path text then Some (file_named files text) else None

-- a file is written as its path; `-` stands for the plain one, and for a row that the table doesn't have
abbrev pub file_text : FileTable → FileRef → List ℕ
file_text files Plain = codes "-"
file_text files (Row n) = unwrap_or (option_map (λ row. row.path) (slice_get files.rows n)) (codes "-")

-- ---- names of calls
-- the call of the kind can be excluded by a filter that is installed: each can but exit (choice)
abbrev pub can_be_excluded : CallKind → Bool
can_be_excluded kind.Exit = false
can_be_excluded _ = true

-- such a kind, where the name is one
abbrev pub excludable : Option CallKind → Option CallKind
excludable None = None
excludable (Some k) = if can_be_excluded k then Some k else None

-- the name of a call that can be excluded
abbrev pub kind_token : List ℕ → Option CallKind
kind_token text = excludable (kind_named text)

-- ---- results
-- the result of a call that is done or refused: 0, or the name of an error
abbrev pub result_token : List ℕ → Option Res
result_token text = if bytes_eq text (codes "0") then Some Done else option_map Err (errno_of text)

-- the result of a call that is done and has no error
abbrev pub done_token : List ℕ → Option Res
done_token text = if bytes_eq text (codes "0") then Some Done else None

-- the result of a birth: the pid of the child, leading zeros allowed, or the name of an error
abbrev pub birth_token : List ℕ → Option Res
birth_token text = option_or (option_map Child (pid_token text)) (option_map Err (errno_of text))

-- the refusal of a call that the caller's filter excludes
abbrev pub excluded_token : List ℕ → Option Res
excluded_token text = if bytes_eq text (errno_name EPERM) then Some (Err EPERM) else None

-- the result of a call that tells the id from before, and has no other error than that
abbrev pub old_id_token : List ℕ → Option Res
old_id_token text = option_or (option_map Id (number_token text)) (excluded_token text)

-- how a result is written
abbrev pub res_text : Res → List ℕ
res_text Done = codes "0"
res_text (Id n) = decimal n
res_text (Child p) = decimal p
res_text (Err e) = errno_name e

-- ---- the marks of a line
-- the token begins a comment
abbrev pub is_comment : List ℕ → Bool
is_comment [] = false
is_comment (byte ∷ text) = byte == 59

-- the token is `=`, which stands in front of a result
abbrev pub is_equals : List ℕ → Bool
is_equals token = bytes_eq token (codes "=")
