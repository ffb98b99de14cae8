-- How strace(1) writes a call: NAME(ARGUMENTS) = RESULT; and the arguments, which commas part (the reading is a choice).
use Rattle.std.specs.Prelude.{ℕ, codes, zero, pred, ◌+◌, ◌==◌, ◌&&◌, ◌||◌, Bool, true, false, length, take, drop, map}
use Rattle.std.specs.Prelude.{List, [], ◌∷◌}
use Rattle.std.specs.Prelude.{Option, Some, None, option_and_then, option_map, unwrap_or, if◌then◌else◌}
use Rattle.std.specs.List.{onto_first}
use Rattle.std.specs.Option.{option_or}
use Rattle.model_strace.specs.Marks.{without_front, trimmed, after_mark, before_mark, name_at}
use Rattle.model_text.specs.Cut.{is_blank}

-- ---- the name
-- the name without a final `32`, which is another number of the same call (setuid(2), "C library/kernel differences")
abbrev pub without_32 : List ℕ → List ℕ
without_32 name = unwrap_or (before_mark (codes "32") name) name

-- the name of the call that a text begins with, none where it begins with no name
abbrev pub call_name : List ℕ → List ℕ
call_name text = without_32 (name_at text)

-- ---- the equals sign before the result
-- Where a reader of a call is: in no quotes; in none, after a closing parenthesis at that place and blanks alone; in quotes;
-- in quotes, after a backslash.
pub data Place : Type 0 where
  Plain : Place
  After : ℕ → Place
  Quoted : Place
  Escaped : Place

-- in no quotes, after a byte at that place which is no blank
abbrev pub plain_after : ℕ → ℕ → Place
plain_after at byte = if byte == 34 then Quoted else if byte == 41 then After at else Plain

-- where the reader is after the byte at a place
abbrev pub place_after : Place → ℕ → ℕ → Place
place_after Plain at byte = plain_after at byte
place_after (After paren) at byte = if is_blank byte then After paren else plain_after at byte
place_after Quoted at byte = if byte == 34 then Plain else if byte == 92 then Escaped else Quoted
place_after Escaped at byte = Quoted

-- the places of the parenthesis and of the equals sign after it, where the byte at a place is one
abbrev pub sign_here : Place → ℕ → ℕ → Option (ℕ × ℕ)
sign_here (After paren) at byte = if byte == 61 then Some (paren, at) else None
sign_here _ at byte = None

-- the last such places in a text, the first byte of which stands at a place
abbrev pub last_sign : Place → ℕ → List ℕ → Option (ℕ × ℕ)
last_sign place at [] = None
last_sign place at (byte ∷ text) = option_or (last_sign (place_after place at byte) (at + 1) text) (sign_here place at byte)

-- ---- the parts of a call
-- What stands between the parentheses, and the result.
pub record Written : Type 0 where
  pub inside : List ℕ
  pub result : List ℕ

-- the parts of what follows the first parenthesis, by the places of the last one and of the equals sign
abbrev pub parts_at : List ℕ → ℕ × ℕ → Written
parts_at text places = record { inside = take places.0 text; result = without_front (drop (places.1 + 1) text) }

-- the parts of what follows the first parenthesis
abbrev pub parts_of : List ℕ → Option Written
parts_of text = option_map (parts_at text) (last_sign Plain 0 text)

-- the parts of a call, where it has the shape of one
abbrev pub written_of : List ℕ → Option Written
written_of text = option_and_then parts_of (after_mark (codes "(") (without_front (drop (length (name_at text)) text)))

-- ---- arguments
-- How deep a reader of arguments is in brackets of any kind: in no quotes; in quotes; in quotes, after a backslash.
pub data Depth : Type 0 where
  Open : ℕ → Depth
  InQuotes : ℕ → Depth
  InEscape : ℕ → Depth

-- `(`, `[` and `{`
abbrev pub opens : ℕ → Bool
opens byte = byte == 40 || byte == 91 || byte == 123

-- `)`, `]` and `}`
abbrev pub closes : ℕ → Bool
closes byte = byte == 41 || byte == 93 || byte == 125

-- how deep the reader is after a byte; a bracket that closes none leaves it outside of all
abbrev pub depth_after : Depth → ℕ → Depth
depth_after (Open depth) byte =
    if opens byte then Open (depth + 1)
    else if closes byte then Open (pred depth)
    else if byte == 34 then InQuotes depth
    else Open depth
depth_after (InQuotes depth) byte = if byte == 34 then Open depth else if byte == 92 then InEscape depth else InQuotes depth
depth_after (InEscape depth) byte = InQuotes depth

-- the byte stands outside of all brackets and quotes
abbrev pub is_outside : Depth → Bool
is_outside (Open zero) = true
is_outside _ = false

-- the parts of a text, one more begun by a comma, or the first one with a byte more at its front
abbrev pub part_before : Bool → ℕ → List (List ℕ) → List (List ℕ)
part_before parts byte texts = if parts then [] ∷ texts else onto_first byte texts

-- the texts that commas outside of brackets and quotes part
abbrev pub comma_parts : Depth → List ℕ → List (List ℕ)
comma_parts depth [] = [] ∷ []
comma_parts depth (byte ∷ text) =
    part_before (is_outside depth && byte == 44) byte (comma_parts (depth_after depth byte) text)

-- the arguments in a text without blanks at its ends: none in an empty one
abbrev pub arguments_in : List ℕ → List (List ℕ)
arguments_in [] = []
arguments_in (byte ∷ text) = map trimmed (comma_parts (Open 0) (byte ∷ text))

-- the arguments that stand between parentheses, or the members between braces
abbrev pub arguments_of : List ℕ → List (List ℕ)
arguments_of text = arguments_in (trimmed text)

-- what stands before the bracket that closes one before the text
abbrev pub before_closing : Depth → List ℕ → List ℕ
before_closing depth [] = []
before_closing depth (byte ∷ text) =
    if is_outside depth && closes byte then [] else byte ∷ before_closing (depth_after depth byte) text

-- ---- members
-- what stands between the brackets of a text that begins with this one
abbrev pub bracketed : List ℕ → List ℕ → Option (List ℕ)
bracketed left text = option_map (before_closing (Open 0)) (after_mark left text)

-- what stands between the brackets of a text that is nothing else
abbrev pub bracketed_whole : List ℕ → List ℕ → List ℕ → Option (List ℕ)
bracketed_whole left right text = option_and_then (before_mark right) (after_mark left text)

-- the value of the member of that name: NAME=VALUE
abbrev pub value_of : List ℕ → List ℕ → Option (List ℕ)
value_of name text =
    option_map without_front (option_and_then (λ rest. after_mark (codes "=") (without_front rest)) (after_mark name text))
