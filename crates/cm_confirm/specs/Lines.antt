-- What comes of the lines of a run, each of which may have so many bytes.
use Rattle.std.specs.Prelude.{ℕ, nat_lt, length, List, [], ◌∷◌, None, Some, if◌then◌else◌}
use Rattle.cm_lines.specs.Cut.{Cut, before, ends_by}
use Rattle.cm_lines.specs.declared.limits.Past.TheVariants.{Line}

-- a line, and then what else comes; none where the line has more bytes than it may have
abbrev pub line_before : ℕ → List ℕ → Cut → Cut
line_before most line rest = if nat_lt most (length line) then ends_by (Some Line) else before line rest

-- what comes of these lines
abbrev pub lines_come : ℕ → List (List ℕ) → Cut
lines_come most [] = ends_by None
lines_come most (line ∷ lines) = line_before most line (lines_come most lines)
