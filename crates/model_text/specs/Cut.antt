-- How a line is cut into tokens (choice).
use Rattle.std.specs.Prelude.{ℕ, ◌==◌, ◌||◌, Bool, false, not, List, [], ◌∷◌, if◌then◌else◌}
use Rattle.cm_lines.specs.Lines.{grown}

-- a blank is a space, a tab or a CR
abbrev pub is_blank : ℕ → Bool
is_blank byte = byte == 32 || byte == 9 || byte == 13

-- the text goes on with a byte that is no blank
abbrev pub goes_on : List ℕ → Bool
goes_on [] = false
goes_on (byte ∷ text) = not (is_blank byte)

-- the tokens of a line, which blanks part
abbrev pub tokens_of : List ℕ → List (List ℕ)
tokens_of [] = []
tokens_of (byte ∷ text) = if is_blank byte then tokens_of text else (if goes_on text then grown byte (tokens_of text) else (byte ∷ []) ∷ tokens_of text)
