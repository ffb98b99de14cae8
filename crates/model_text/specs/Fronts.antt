-- What comes of a text, and what the text is made of.
use Rattle.std.specs.Prelude.{◌≡◌, ◌≤◌, ◌<◌, ℕ, length, List, [], ◌∷◌, ◌++◌, Some, None, All}
use Rattle.cm_base.specs.Limited.{limit_number}
use Rattle.cm_base.specs.declared.limited.Limited.TheVariants as limit
use Rattle.cm_lines.specs.Cut.{Cut, cut_of}
use Rattle.cm_lines.specs.Lines.{lines_of}
use Rattle.cm_lines.specs.declared.limits.Past.TheVariants.{Line, Whole}
use Rattle.model_text.specs.Reading.{log_cut, line_cut}

-- The lines that come of a text are its first ones, each within the limit of lines, and all of them where none is past a
-- limit. Past that of lines is only a line that has more bytes, and past that of the text only a line of a text that has more.
pub record IsFrontOf (line whole : ℕ) (text : List ℕ) (cut : Cut) : Type 0 where
  pub later : List (List ℕ)
  pub front : lines_of text ≡ cut.lines ++ later
  pub short : All (λ l. length l ≤ line) cut.lines
  pub all : cut.stop ≡ None → later ≡ []
  pub long : cut.stop ≡ Some Line → (next : List ℕ) × (after : List (List ℕ)) × (later ≡ next ∷ after) × (line < length next)
  pub large : cut.stop ≡ Some Whole → whole < length text

-- So it is with what comes of each text, whatever the limits.
unfoldable pub CutsAreFronts : Type 0
CutsAreFronts = (line whole : ℕ) (text : List ℕ) → IsFrontOf line whole text (cut_of line whole text)

-- Of a log within its limit comes what comes of the same text where lines alone have a limit.
unfoldable pub ShortLogsAreCut : Type 0
ShortLogsAreCut = (text : List ℕ) → length text ≤ limit_number limit.Log → log_cut text ≡ line_cut text
