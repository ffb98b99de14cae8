-- A line of a log of strace -f: a pid, blanks, and a body; and what a body is (strace(1), "-f"; the reading is a choice).
use Rattle.std.specs.Prelude.{ℕ, codes, ◌||◌, Bool, false, is_some, bytes_eq, List, [], ◌∷◌, Option}
use Rattle.std.specs.Prelude.{Some, None}
use Rattle.std.specs.Prelude.{option_and_then, option_map, unwrap_or, if◌then◌else◌}
use Rattle.std.specs.Option.{option_or}
use Rattle.cm_base.specs.Number.{is_number}
use Rattle.model_strace.specs.Marks.{without_front, without_end, first_word, after_first_word, after_mark, before_mark}
use Rattle.model_text.specs.Cut.{tokens_of}
use Rattle.model_text.specs.Token.{pid_token}

-- ---- the line
-- A line of blanks alone; one that doesn't begin with a pid; a pid and its body.
pub data PidLine : Type 0 where
  Blank : PidLine
  NoPid : PidLine
  Of : ℕ → List ℕ → PidLine

-- the row of a pid, where there is one, and of a body
abbrev pub pid_row : Option ℕ → List ℕ → PidLine
pid_row None body = NoPid
pid_row (Some pid) body = Of pid body

-- the row of a line without blanks at its end: the pid stands before the first blank, and nothing before the pid
abbrev pub row_cut : List ℕ → PidLine
row_cut [] = Blank
row_cut (byte ∷ text) = pid_row (pid_token (first_word (byte ∷ text))) (after_first_word (byte ∷ text))

-- the row of a line
abbrev pub row_of : List ℕ → PidLine
row_of line = row_cut (without_end line)

-- ---- the body
-- What a body is: none that tells anything; the end of its process; the end of a thread whose place another one's execve
-- took; the beginning of a call, without the mark that it isn't finished; the rest of the call of that name; a call.
pub data Body : Type 0 where
  Silent : Body
  Ends : Body
  Superseded : Body
  Begun : List ℕ → Body
  Resumed : List ℕ → List ℕ → Body
  Whole : List ℕ → Body

-- what follows these words
abbrev pub after_words : List (List ℕ) → List (List ℕ) → Option (List (List ℕ))
after_words [] words = Some words
after_words (wanted ∷ more) [] = None
after_words (wanted ∷ more) (word ∷ words) = if bytes_eq wanted word then after_words more words else None

-- the words are one number
abbrev pub are_number : Option (List (List ℕ)) → Bool
are_number (Some (word ∷ [])) = is_number 10 word
are_number _ = false

-- `exited with`, and a status; or `killed by`, and the signal's name
abbrev pub is_end : List (List ℕ) → Bool
is_end words =
    are_number (after_words (codes "exited" ∷ codes "with" ∷ []) words)
    || is_some (after_words (codes "killed" ∷ codes "by" ∷ []) words)

-- what the words between two marks `+++` tell
abbrev pub end_body : Option (List (List ℕ)) → Body
end_body None = Silent
end_body (Some words) =
    if is_end words then Ends else if is_some (after_words (codes "superseded" ∷ []) words) then Superseded else Silent

-- the words before a mark `+++` at the end
abbrev pub words_before_plus : List ℕ → Option (List (List ℕ))
words_before_plus text = option_map tokens_of (before_mark (codes "+++") text)

-- the rest of the call of that name, after the mark `resumed>`
abbrev pub resumed_body : List ℕ → Option (List ℕ) → Option Body
resumed_body name rest = option_map (Resumed name) rest

-- the same after the mark `<...`: the name stands up to a blank
abbrev pub after_dots : List ℕ → Option Body
after_dots text = resumed_body (first_word text) (after_mark (codes "resumed>") (after_first_word text))

-- a body that tells of a call, or of a part of one: one that isn't finished comes before one that is resumed
abbrev pub call_body : List ℕ → Body
call_body text =
    unwrap_or (option_or (option_map Begun (before_mark (codes "<unfinished ...>") text))
    (option_and_then (λ rest. after_dots (without_front rest)) (after_mark (codes "<...") text))) (Whole text)

-- a body that doesn't begin with `+++`, or what follows that mark
abbrev pub marked_body : List ℕ → Option (List ℕ) → Body
marked_body text None = call_body text
marked_body text (Some rest) = end_body (words_before_plus rest)

-- what a body is: one that begins with `---` tells of a signal, one between two marks `+++` of an end
abbrev pub body_of : List ℕ → Body
body_of text = if is_some (after_mark (codes "---") text) then Silent else marked_body text (after_mark (codes "+++") text)
