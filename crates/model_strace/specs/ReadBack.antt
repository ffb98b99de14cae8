-- What is read of a log of strace(1), is written as lines of a script, and is read again.
use Rattle.std.specs.Prelude.{◌≡◌, ◌<◌, ◌^◌, ℕ, length, List, All}
use Rattle.cm_lines.specs.Lines.{lines_of}
use Rattle.model_cred.specs.World.{World}
use Rattle.model_strace.specs.Lines.{strace_reading}
use Rattle.model_text.specs.Line.{Tells, script_line}
use Rattle.model_text.specs.Print.{event_text}
use Rattle.model_text.specs.WorldText.{Reads, world_text}
use Rattle.model_text.specs.Written.{IsWritable}

-- Each event that a log of so many lines tells over a world that a text declares is writable over it: they number no space
-- past the greatest number of 32 bits.
unfoldable pub ToldAreWritable : Type 0
ToldAreWritable = (bytes : List ℕ) (w : World) (text : List ℕ) → world_text bytes ≡ Reads w
    → length (lines_of text) < 2 ^ 31 → All (λ e. IsWritable w e.event) (strace_reading w text).events

-- So what is written of it is read, as a line of a script, as that event.
unfoldable pub ToldReadBack : Type 0
ToldReadBack = (bytes : List ℕ) (w : World) (text : List ℕ) → world_text bytes ≡ Reads w
    → length (lines_of text) < 2 ^ 31
    → All (λ e. script_line w (event_text w e.event) ≡ Tells e.event) (strace_reading w text).events
