-- What a cutter of lines keeps of a file, and what it gives next.
use Rattle.std.specs.Prelude.{◌≡◌, ◌≤◌, ◌<◌, ◌+◌, ℕ, Bool, false, nat_lt, if◌then◌else◌, IsTrue}
use Rattle.std.specs.Prelude.{List, [], ◌∷◌, length, take, drop, Option, None, Some, IfSome, Result, Ok, Err, OnOk}
use Rattle.cm_lines.specs.Lines.{line_len, line_size}
use Rattle.cm_lines.specs.Cut.{Cut, before, cut_from, ends_by, past_of}
use Rattle.cm_lines.specs.declared.limits.Past.{Past}
use Rattle.cm_lines.specs.declared.limits.Past.TheVariants.{Line, Whole}
use Rattle.cm_io.specs.Account.{Account}
use Rattle.cm_io.specs.Shelf.{Files, ReadsByBytes, bytes_at}
use Rattle.cm_io.specs.declared.cutter.CutError.{CutError}
use Rattle.cm_io.specs.declared.cutter.CutError.TheVariants.{Read, TooLong, TooMuch, NoMemory}
use denote.Ref.{Bor}

-- A cutter: the file's name; the most bytes of a line and of the file; how many bytes it gave; those after them that it
-- has read; and whether a read told that no byte comes after what it gave last.
pub record Cutting : Type 0 where
  pub name : List ℕ
  pub line : ℕ
  pub whole : ℕ
  pub place : ℕ
  pub kept : List ℕ
  pub ended : Bool

-- one that gave nothing yet
abbrev pub begun : List ℕ → ℕ → ℕ → Cutting
begun name line whole =
    record { name = name; line = line; whole = whole; place = 0; kept = []; ended = false }

-- how many bytes of the file it has read
abbrev pub read_to : Cutting → ℕ
read_to c = c.place + length c.kept

-- no read is wanted for what it gives next: it keeps a line with its LF
abbrev pub is_at_hand : Cutting → Bool
is_at_hand c = nat_lt (line_len c.kept) (length c.kept)

-- the limit that the next line is past, as what it keeps shows
abbrev pub past_kept : Cutting → Option Past
past_kept c = past_of c.line c.whole c.place (line_len c.kept) (line_size c.kept)

-- how many of the reads for what it gave last told that no more bytes come
abbrev pub ends : Cutting → ℕ
ends c = if c.ended then 1 else 0

-- ---- what comes next
-- what it answers at a limit
abbrev pub error_of : Past → CutError
error_of Line = TooLong
error_of Whole = TooMuch

-- a line, where it is past no limit
abbrev pub unless_past : Option Past → List ℕ → Result (Option (List ℕ)) CutError
unless_past None line = Ok (Some line)
unless_past (Some past) line = Err (error_of past)

-- What comes next under these limits, where these bytes of the file are left from a place on: the first line, or the
-- limit that it is past; nothing where no byte is left.
abbrev pub next_cut : (line whole place : ℕ) → List ℕ → Result (Option (List ℕ)) CutError
next_cut line whole place [] = Ok None
next_cut line whole place (byte ∷ text) =
    unless_past (past_of line whole place (line_len (byte ∷ text)) (line_size (byte ∷ text)))
    (take (line_len (byte ∷ text)) (byte ∷ text))

-- what a cutter gives next, where the file has this text
abbrev pub next_of : Cutting → List ℕ → Result (Option (List ℕ)) CutError
next_of c text = next_cut c.line c.whole c.place (drop c.place text)

-- all that it still gives
abbrev pub left_of : Cutting → List ℕ → Cut
left_of c text = cut_from c.line c.whole c.place text

-- ---- the cutter and the shelf
-- It keeps the bytes of a text at its place.
abbrev pub FitsText : Cutting → List ℕ → Type 0
FitsText c text = c.kept ≡ take (length c.kept) (drop c.place text)

-- it fits a shelf, where that tells what it holds
abbrev pub Fits : Option Files → Cutting → Type 0
Fits held c = IfSome held (λ files. FitsText c (bytes_at files c.name))

-- The answer is what it gives next, where the file has this text; or a read failed, or there was no memory.
abbrev pub IsCut : Cutting → List ℕ → Result (Option (Bor (List ℕ))) CutError → Type 0
IsCut c text (Ok None) = next_of c text ≡ Ok None
IsCut c text (Ok (Some line)) = next_of c text ≡ Ok (Some line.now)
IsCut c text (Err TooLong) = next_of c text ≡ Err TooLong
IsCut c text (Err TooMuch) = next_of c text ≡ Err TooMuch
IsCut c text (Err Read) = Unit {0}
IsCut c text (Err NoMemory) = Unit {0}

-- ---- after an answer
-- of the same file, with the same limits
pub record SameFile (old new : Cutting) : Type 0 where
  pub name : new.name ≡ old.name
  pub line : new.line ≡ old.line
  pub whole : new.whole ≡ old.whole

-- It went past a line, so past a byte, and stands after it: after its LF, where it isn't told that the file ends there.
pub record GoesPast (held : Option Files) (old new : Cutting) (line : List ℕ) : Type 0 where
  pub on : old.place < new.place
  pub within : new.place ≤ old.whole
  pub place : IfSome held (λ files. new.place ≡ old.place + line_size (drop old.place (bytes_at files old.name)))
  pub lf : new.ended ≡ false → old.place + length line < new.place

-- It stands at the end of the file, and knows it.
pub record Ends (old new : Cutting) : Type 0 where
  pub place : new.place ≡ old.place
  pub kept : new.kept ≡ []
  pub ended : IsTrue new.ended

-- It stands where it stood, and what it keeps shows the limit: so it answers this from now on.
pub record StopsAt (past : Past) (old new : Cutting) : Type 0 where
  pub place : new.place ≡ old.place
  pub shows : past_kept new ≡ Some past

-- Where it stands after its answer: past the line that it gave; at the end of the file; at a limit where it stood, and
-- it stays there. After a read that failed and after want of memory it is as before.
abbrev pub Moves : Option Files → Cutting → Cutting → Result (Option (Bor (List ℕ))) CutError → Type 0
Moves held old new (Ok (Some line)) = GoesPast held old new line.now
Moves held old new (Ok None) = Ends old new
Moves held old new (Err TooLong) = StopsAt Line old new
Moves held old new (Err TooMuch) = StopsAt Whole old new
Moves held old new (Err Read) = new ≡ old
Moves held old new (Err NoMemory) = new ≡ old

-- What it still gave is its answer and what it still gives, where the file has this text.
abbrev pub Gives : Cutting → Cutting → List ℕ → Result (Option (Bor (List ℕ))) CutError → Type 0
Gives old new text (Ok (Some line)) = left_of old text ≡ before line.now (left_of new text)
Gives old new text (Ok None) = left_of old text ≡ ends_by None
Gives old new text (Err TooLong) = left_of old text ≡ ends_by (Some Line)
Gives old new text (Err TooMuch) = left_of old text ≡ ends_by (Some Whole)
Gives old new text (Err Read) = Unit {0}
Gives old new text (Err NoMemory) = Unit {0}

-- The cutter after its answer: it fits the shelf, and no byte was taken that it doesn't keep or has given, but for
-- those of an error. Each of its reads gave a byte, but for the one that told that no more come, and one that failed.
-- Where it has ended, it keeps no byte, and the file has none from its place on.
pub record IsAfter (a a' : Account) (old new : Cutting) (r : Result (Option (Bor (List ℕ))) CutError) : Type 0 where
  pub same : SameFile old new
  pub fits : Fits a.held new
  pub moves : Moves a.held old new r
  pub gives : IfSome a.held (λ files. Gives old new (bytes_at files old.name) r)
  pub takes : OnOk r (a'.taken old.name + read_to old ≤ a.taken old.name + read_to new)
  pub reads : OnOk r (ReadsByBytes a.reads a'.reads a.taken a'.taken old.name (ends new))
  pub last : OnOk r (IsTrue new.ended → new.kept ≡ [])
  pub whole : OnOk r (IsTrue new.ended → IfSome a.held (λ files. length (bytes_at files old.name) ≤ read_to new))

-- The bytes that were taken before a read failed are of the line at its place, where the shelf tells what it holds: no
-- LF is among them.
abbrev pub BreaksWithin : Cutting → (a a' : Account) → Type 0
BreaksWithin old a a' = IfSome a.held (λ files.
    a'.taken old.name + length old.kept ≤ a.taken old.name + line_len (drop old.place (bytes_at files old.name)))
