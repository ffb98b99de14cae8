-- Held lines of which some were taken, as a flag for each says.
use Rattle.std.specs.Prelude.{◌≡◌, ℕ, Bool, true, not, List, [], ◌∷◌, take, if◌then◌else◌}
use Rattle.std.specs.List.{list_any}
use Rattle.model_strace.specs.Lines.{Line, is_line_of}

-- the lines that weren't taken
abbrev pub untaken : List Line → List Bool → List Line
untaken [] taken = []
untaken (l ∷ lines) [] = l ∷ lines
untaken (l ∷ lines) (t ∷ taken) = if t then untaken lines taken else l ∷ untaken lines taken

-- a line of that pid that wasn't taken stands before that place
abbrev pub waits_before : ℕ → ℕ → List Line → List Bool → Bool
waits_before pid place lines taken = list_any (is_line_of pid) (untaken (take place lines) taken)

-- the next flag says that a line stays where it wasn't taken
abbrev pub NextFlag : List Bool → Bool → List Bool → Type 0
NextFlag [] stays rest = (stays ≡ true) × (rest ≡ [])
NextFlag (t ∷ taken) stays rest = (stays ≡ not t) × (rest ≡ taken)
