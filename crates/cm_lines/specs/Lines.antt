-- How a text is cut into lines (choice).
use Rattle.std.specs.Prelude.{ℕ, ◌+◌, ◌==◌, min, length, List, [], ◌∷◌, if◌then◌else◌}

-- the first piece with a byte more at its front; the piece of that byte alone where there is none
abbrev pub grown : ℕ → List (List ℕ) → List (List ℕ)
grown byte [] = (byte ∷ []) ∷ []
grown byte (piece ∷ pieces) = (byte ∷ piece) ∷ pieces

-- The lines of a text: each ends before its LF, and a last line without LF counts where it isn't empty.
abbrev pub lines_of : List ℕ → List (List ℕ)
lines_of [] = []
lines_of (byte ∷ text) = if byte == 10 then [] ∷ lines_of text else grown byte (lines_of text)

-- how many bytes stand before the first LF, and all where there is none
abbrev pub line_len : List ℕ → ℕ
line_len [] = 0
line_len (byte ∷ text) = if byte == 10 then 0 else line_len text + 1

-- the same with the LF, where there is one
abbrev pub line_size : List ℕ → ℕ
line_size text = min (line_len text + 1) (length text)
