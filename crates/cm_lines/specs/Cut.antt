-- What comes of a text that is cut into lines where a line may have so many bytes, and the text so many (choice).
use Rattle.std.specs.Prelude.{◌+◌, ◌-◌, min, ℕ, ◌&&◌, nat_lt, if◌then◌else◌, List, [], ◌∷◌, length, drop, Option, None, Some}
use Rattle.cm_lines.specs.Lines.{lines_of}
use Rattle.cm_lines.specs.declared.limits.Past.{Past}
use Rattle.cm_lines.specs.declared.limits.Past.TheVariants.{Line, Whole}

-- Which limit a line is past that begins at a place of a text, and has so many bytes without its LF and so many with
-- it. It is past that of lines where it has a byte more than lines may have, and this byte stands before the first byte
-- that the text may not have; else past that of the text, where it has that byte.
abbrev pub past_of : (line whole place len size : ℕ) → Option Past
past_of line whole place len size =
    if nat_lt line len && nat_lt (place + line) whole then Some Line
    else if nat_lt whole (place + size) then Some Whole
    else None

-- The lines that come, and the limit that the line after them is past; none where they are all.
pub record Cut : Type 0 where
  pub lines : List (List ℕ)
  pub stop : Option Past

-- a line, and then what else comes
abbrev pub before : List ℕ → Cut → Cut
before line rest = record { lines = line ∷ rest.lines; stop = rest.stop }

-- no line comes
abbrev pub ends_by : Option Past → Cut
ends_by stop = record { lines = []; stop = stop }

-- A line and what else comes, where it is past no limit; else no line comes.
abbrev pub cut_by : Option Past → List ℕ → Cut → Cut
cut_by None line rest = before line rest
cut_by (Some past) line rest = ends_by (Some past)

-- What comes of these lines, which stand from a place on in a text of `size` bytes: each has an LF behind it, but for
-- the last one where the text ends with it.
abbrev pub cut_lines : (line whole size place : ℕ) → List (List ℕ) → Cut
cut_lines line whole size place [] = ends_by None
cut_lines line whole size place (l ∷ ls) =
    cut_by (past_of line whole place (length l) (min (length l + 1) (size - place))) l
    (cut_lines line whole size (place + length l + 1) ls)

-- what comes of a text from a place on, at which a line begins
abbrev pub cut_from : (line whole place : ℕ) → List ℕ → Cut
cut_from line whole place text = cut_lines line whole (length text) place (lines_of (drop place text))

-- What comes of a text: its lines, up to the first that is past a limit.
abbrev pub cut_of : (line whole : ℕ) → List ℕ → Cut
cut_of line whole text = cut_lines line whole (length text) 0 (lines_of text)
