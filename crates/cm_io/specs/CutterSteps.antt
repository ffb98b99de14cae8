-- How a cutter comes to its answer, step by step.
use Rattle.std.specs.Prelude.{◌≡◌, ◌≤◌, ◌<◌, ◌+◌, ◌==◌, if◌then◌else◌, IsTrue, false, ℕ, List, [], length, take, drop}
use Rattle.std.specs.Prelude.{Option, None, Some, Result, Ok, Err}
use Rattle.cm_lines.specs.Lines.{line_size}
use Rattle.cm_lines.specs.declared.limits.Past.TheVariants.{Line, Whole}
use Rattle.cm_io.specs.Cutter.{Cutting, SameFile, StopsAt, next_of, read_to}
use Rattle.cm_io.specs.declared.cutter.CutError.{CutError}
use Rattle.cm_io.specs.declared.cutter.CutError.TheVariants.{Read, TooLong, TooMuch, NoMemory}
use Rattle.cm_io.specs.declared.cutter.Found.{Found}
use Rattle.cm_io.specs.declared.outside.Outside.{Outside}
use Rattle.cm_io.specs.declared.outside.Outside.TheVariants as outside

-- so many bytes more are kept, and it may be known that no more come; nothing else changed
pub record KeepsMore (old new : Cutting) (more : ℕ) : Type 0 where
  pub same : SameFile old new
  pub place : new.place ≡ old.place
  pub front : take (length old.kept) new.kept ≡ old.kept
  pub len : length new.kept ≡ length old.kept + more
  pub few : read_to new ≤ new.whole + 1

-- a line stands at the front of what is kept
pub record FindsLine (old new : Cutting) (f : Found) : Type 0 where
  pub len : f.len ≤ f.size
  pub short : f.len ≤ old.line
  pub some : 0 < f.size
  pub kept : f.size ≤ length new.kept
  pub within : old.place + f.size ≤ old.whole

-- what a cutter found: nothing is kept; or a line
abbrev pub Finds : Cutting → Cutting → Option Found → Type 0
Finds old new None = new.kept ≡ []
Finds old new (Some f) = FindsLine old new f

-- whether a read told that no byte comes after what was found: then nothing else is kept; else the line has its LF
abbrev pub Tells : Cutting → Option Found → Type 0
Tells new None = IsTrue new.ended
Tells new (Some f) = (IsTrue new.ended → f.size ≡ length new.kept) × (new.ended ≡ false → f.len < f.size)

-- what is found is what the cutter gives next, where the file has this text
abbrev pub IsFound : Cutting → Cutting → List ℕ → Result (Option Found) CutError → Type 0
IsFound old new text (Ok None) = next_of old text ≡ Ok None
IsFound old new text (Ok (Some f)) =
    (next_of old text ≡ Ok (Some (take f.len new.kept))) × (f.size ≡ line_size (drop old.place text))
IsFound old new text (Err TooLong) = next_of old text ≡ Err TooLong
IsFound old new text (Err TooMuch) = next_of old text ≡ Err TooMuch
IsFound old new text (Err Read) = Unit {0}
IsFound old new text (Err NoMemory) = Unit {0}

-- where it stands then
abbrev pub Stays : Cutting → Cutting → Result (Option Found) CutError → Type 0
Stays old new (Ok f) = (more : ℕ) × KeepsMore old new more
Stays old new (Err TooLong) = SameFile old new × StopsAt Line old new
Stays old new (Err TooMuch) = SameFile old new × StopsAt Whole old new
Stays old new (Err Read) = new ≡ old
Stays old new (Err NoMemory) = new ≡ old

-- why there is no line, by why a read gave nothing
abbrev pub cut_error : Outside → CutError
cut_error outside.Failed = Read
cut_error outside.NoMemory = NoMemory

-- a line of so many bytes, and so many with its LF, where it isn't the file's end
abbrev pub found_of : (len size : ℕ) → Option Found
found_of len size = if size == 0 then None else Some (record { len = len; size = size })
