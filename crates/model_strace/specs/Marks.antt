-- Marks and blanks in the lines of strace(1), and what stands before and after them (choice).
use Rattle.std.specs.Prelude.{ℕ, ◌-◌, ◌==◌, ◌&&◌, ◌||◌, Bool, not, nat_eq, nat_le, length, take, drop, take_while, List}
use Rattle.std.specs.Prelude.{[], ◌∷◌}
use Rattle.std.specs.Prelude.{Option, Some, None, option_map, if◌then◌else◌}
use Rattle.std.specs.List.{starts_with, ends_with, suffix_len, slice_split}
use Rattle.model_text.specs.Cut.{is_blank}

-- ---- blanks
-- the text without the blanks at its front
abbrev pub without_front : List ℕ → List ℕ
without_front [] = []
without_front (byte ∷ text) = if is_blank byte then without_front text else byte ∷ text

-- the text without the blanks at its end
abbrev pub without_end : List ℕ → List ℕ
without_end text = take (length text - suffix_len is_blank text) text

-- the text without the blanks at both ends
abbrev pub trimmed : List ℕ → List ℕ
trimmed text = without_front (without_end text)

-- what stands before the first blank
abbrev pub first_word : List ℕ → List ℕ
first_word text = take_while (λ byte. not (is_blank byte)) text

-- what stands after the first word and the blanks that follow it
abbrev pub after_first_word : List ℕ → List ℕ
after_first_word text = without_front (drop (length (first_word text)) text)

-- ---- marks
-- what follows the mark at the text's front
abbrev pub after_mark : List ℕ → List ℕ → Option (List ℕ)
after_mark mark text = if starts_with nat_eq text mark then Some (drop (length mark) text) else None

-- what precedes the mark at the text's end
abbrev pub before_mark : List ℕ → List ℕ → Option (List ℕ)
before_mark mark text = if ends_with nat_eq text mark then Some (take (length text - length mark) text) else None

-- what precedes and what follows a mark, with a byte more at the front
abbrev pub after_byte : ℕ → List ℕ × List ℕ → List ℕ × List ℕ
after_byte byte sides = (byte ∷ sides.0, sides.1)

-- what precedes and what follows the first place of a mark, which is no empty text
abbrev pub cut_at : List ℕ → List ℕ → Option (List ℕ × List ℕ)
cut_at mark [] = None
cut_at mark (byte ∷ text) =
    if starts_with nat_eq (byte ∷ text) mark then Some ([], drop (length mark) (byte ∷ text))
    else option_map (after_byte byte) (cut_at mark text)

-- ---- words
-- a letter, a digit or `_`: names of calls and of errors are made of them
abbrev pub is_word_byte : ℕ → Bool
is_word_byte byte =
    (nat_le 65 byte && nat_le byte 90) || (nat_le 97 byte && nat_le byte 122) || (nat_le 48 byte && nat_le byte 57)
    || byte == 95

-- the name at the text's front: its longest run of such bytes
abbrev pub name_at : List ℕ → List ℕ
name_at text = take_while is_word_byte text

-- the words that vertical bars part
abbrev pub barred : List ℕ → List (List ℕ)
barred text = slice_split (λ byte. byte == 124) text
