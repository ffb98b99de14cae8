-- Quoted texts as strace(1) writes them, with its escapes (the reading is a choice).
use Rattle.std.specs.Prelude.{ℕ, codes, zero, suc, ◌+◌, ◌-◌, ◌*◌, ◌==◌, ◌&&◌, nat_le, bytes_eq, Bool, List, [], ◌∷◌}
use Rattle.std.specs.Prelude.{◌++◌, Option, Some, None}
use Rattle.std.specs.Prelude.{option_map, find, if◌then◌else◌}
use Rattle.model_strace.specs.Marks.{trimmed, after_mark}

-- Where a reader of a quoted text is: after a whole byte; after a backslash; after octal digits of that value, of which so
-- many more may follow.
pub data Reach : Type 0 where
  Text : Reach
  Slash : Reach
  Octal : ℕ → ℕ → Reach

-- What one byte more makes of it: no text; the end of the text, after these bytes; these bytes, and the reader goes on.
pub data Step : Type 0 where
  Breaks : Step
  Closes : List ℕ → Step
  Goes : List ℕ → Reach → Step

-- the bytes that letters stand for after a backslash: \n, \t, \v, \f, \r, \\ and \"
abbrev pub escapes : List (ℕ × ℕ)
escapes = (110, 10) ∷ (116, 9) ∷ (118, 11) ∷ (102, 12) ∷ (114, 13) ∷ (92, 92) ∷ (34, 34) ∷ []

-- after whole bytes, these among them
abbrev pub text_step : List ℕ → ℕ → Step
text_step made byte =
    if byte == 34 then Closes made
    else if byte == 92 then Goes made Slash
    else Goes (made ++ byte ∷ []) Text

-- the byte of an escape
abbrev pub escape_step : Option (ℕ × ℕ) → Step
escape_step None = Breaks
escape_step (Some escape) = Goes (escape.1 ∷ []) Text

-- an octal digit
abbrev pub is_octal : ℕ → Bool
is_octal byte = nat_le 48 byte && nat_le byte 55

-- after a backslash: up to three octal digits, or an escape
abbrev pub slash_step : ℕ → Step
slash_step byte =
    if is_octal byte then Goes [] (Octal (byte - 48) 2) else escape_step (find (λ escape. escape.0 == byte) escapes)

-- after octal digits: their value is one byte
abbrev pub octal_end : ℕ → ℕ → Step
octal_end value byte = if nat_le value 255 then text_step (value ∷ []) byte else Breaks

-- what a byte makes
abbrev pub step : Reach → ℕ → Step
step Text byte = text_step [] byte
step Slash byte = slash_step byte
step (Octal value zero) byte = octal_end value byte
step (Octal value (suc more)) byte =
    if is_octal byte then Goes [] (Octal (8 * value + (byte - 48)) more) else octal_end value byte

-- the bytes of a quoted text and what follows it, with these bytes before
abbrev pub after_bytes : List ℕ → List ℕ × List ℕ → List ℕ × List ℕ
after_bytes made sides = (made ++ sides.0, sides.1)

-- a step, and what the text after it is read as
abbrev pub stepped : Step → List ℕ → (Reach → Option (List ℕ × List ℕ)) → Option (List ℕ × List ℕ)
stepped Breaks text next = None
stepped (Closes made) text next = Some (made, text)
stepped (Goes made reach) text next = option_map (after_bytes made) (next reach)

-- the bytes of a quoted text up to its closing quote, and what follows that
abbrev pub unquoted : Reach → List ℕ → Option (List ℕ × List ℕ)
unquoted reach [] = None
unquoted reach (byte ∷ text) = stepped (step reach byte) text (λ reach'. unquoted reach' text)

-- What an argument is as a quoted text: these bytes; one that was cut, as `...` tells; none.
pub data Quote : Type 0 where
  Bytes : List ℕ → Quote
  Shortened : Quote
  NoText : Quote

-- by the bytes, and what follows the closing quote
abbrev pub quote_before : Option (List ℕ × List ℕ) → Quote
quote_before None = NoText
quote_before (Some sides) =
    if bytes_eq (trimmed sides.1) [] then Bytes sides.0
    else if bytes_eq (trimmed sides.1) (codes "...") then Shortened
    else NoText

-- what follows an opening quote
abbrev pub quote_after : Option (List ℕ) → Quote
quote_after None = NoText
quote_after (Some text) = quote_before (unquoted Text text)

-- the quoted text that an argument is
abbrev pub quote_of : List ℕ → Quote
quote_of text = quote_after (after_mark (codes "\"") text)

-- its bytes, where it is whole
abbrev pub whole_text : Quote → Option (List ℕ)
whole_text (Bytes bytes) = Some bytes
whole_text _ = None
