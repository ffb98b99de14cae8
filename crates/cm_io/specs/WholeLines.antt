-- The lines of a text that have their LF.
use Rattle.std.specs.Prelude.{ℕ, ◌==◌, if◌then◌else◌, List, [], ◌∷◌, ◌++◌}
use Rattle.cm_lines.specs.Cut.{Cut}

-- the first line with a byte more at its front, where there is one
abbrev pub grown_line : ℕ → List (List ℕ) → List (List ℕ)
grown_line byte [] = []
grown_line byte (line ∷ lines) = (byte ∷ line) ∷ lines

-- the lines of a text that have their LF
abbrev pub whole_lines : List ℕ → List (List ℕ)
whole_lines [] = []
whole_lines (byte ∷ text) = if byte == 10 then [] ∷ whole_lines text else grown_line byte (whole_lines text)

-- lines, and then what else comes
abbrev pub after_lines : List (List ℕ) → Cut → Cut
after_lines lines cut = record { lines = lines ++ cut.lines; stop = cut.stop }
