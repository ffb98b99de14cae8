-- Of which line of a log of strace(1) each number in its reading is.
use Rattle.std.specs.Prelude.{◌≡◌, ℕ, ◌+◌, length, List, ◌∷◌, ◌++◌, All}
use Rattle.cm_base.specs.declared.faults.LineFault.{LineFault}
use Rattle.cm_base.specs.declared.faults.LineFault.TheVariants as fault
use Rattle.model_cred.specs.World.{World}
use Rattle.model_strace.specs.Body.{PidLine, Blank, NoPid, Of, row_of}
use Rattle.model_strace.specs.Lines.{strace_reading}
use Rattle.model_strace.specs.Parts.{Parts}
use Rattle.model_strace.specs.Turn.{Turn, Quiet, Gives, Refused, Exceeds, turn}
use Rattle.cm_lines.specs.Lines.{lines_of}
use Rattle.model_text.specs.Line as text
use Rattle.model_text.specs.Line.{Line, NoEvent, Tells, Faulty}
use Rattle.model_text.specs.Reading.{Fault, Stops, Reading}

-- what a turn tells
abbrev pub told_by : Turn → Line
told_by (Quiet p) = NoEvent
told_by (Gives p e born) = Tells e
told_by (Refused why) = Faulty why
told_by (Exceeds l) = text.Exceeds l

-- what a line tells, where so much is known
abbrev pub row_told : World → Parts → PidLine → Line
row_told w p Blank = NoEvent
row_told w p NoPid = Faulty fault.Pid
row_told w p (Of pid body) = told_by (turn w pid body p)

-- Among lines, the first of which has the number 1, the line of that number stands for this, where so much is known.
pub record StandsFor (w : World) (lines : List (List ℕ)) (number : ℕ) (meaning : Line) : Type 0 where
  pub before : List (List ℕ)
  pub line : List ℕ
  pub later : List (List ℕ)
  pub cut : lines ≡ before ++ line ∷ later
  pub place : number ≡ 1 + length before
  pub known : Parts
  pub means : row_told w known (row_of line) ≡ meaning

-- Each event of a reading is told by the line of its number; where it stops at a fault, the line of that number has it.
pub record ReadsLines (w : World) (lines : List (List ℕ)) (reading : Reading) : Type 0 where
  pub events : All (λ e. StandsFor w lines e.line (Tells e.event)) reading.events
  pub fault : (number : ℕ) (why : LineFault) → reading.ending ≡ Stops (Fault number why) → StandsFor w lines number (Faulty why)

-- So it is with the reading of each log.
unfoldable pub NumbersAreLines : Type 0
NumbersAreLines = (w : World) (text : List ℕ) → ReadsLines w (lines_of text) (strace_reading w text)
