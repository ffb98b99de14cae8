-- What the reads of a shelf of files give, and what its counts tell of them: faults, reads, bytes taken.
use Rattle.std.specs.Prelude.{◌≡◌, ◌≢◌, ◌⊎◌, ◌<◌, ◌≤◌, ◌+◌, ◌-◌, ◌^◌, ℕ, Bool, IsTrue, not, min, max, if◌then◌else◌}
use Rattle.std.specs.Prelude.{List, [], ◌∷◌, length, take, drop, Option, IfSome, Result, Ok, Err, IfOk, OnOk}
use Rattle.std.specs.Str.{bytes_eq}
use Rattle.cm_io.specs.declared.outside.Outside.{Outside}
use Rattle.cm_io.specs.declared.outside.Outside.TheVariants.{Failed, NoMemory}

-- No buffer was longer that was to be filled than the longest one before, or the most bytes that are asked for at once.
abbrev pub AsksForPieces : (before now : ℕ) → Type 0
AsksForPieces before now = now ≤ max before 65536

-- files, each a name with its bytes
abbrev pub Files : Type 0
Files = List (List ℕ × List ℕ)

-- the bytes under a name, which are those of the first file of that name, and none where no file has it
abbrev pub bytes_at : Files → List ℕ → List ℕ
bytes_at [] name = []
bytes_at (file ∷ files) name = if bytes_eq file.0 name then file.1 else bytes_at files name

-- a count of faults rose, or stands at the last value that it can have
abbrev pub Rose : ℕ → ℕ → Type 0
Rose before now = (before < now) ⊎ (2 ^ 64 - 1 ≤ now)

-- the first n bytes of a buffer are those of a text from a place on; n is 0 only at the text's end or for an empty buffer
pub record ReadsText (text : List ℕ) (place : ℕ) (buffer : List ℕ) (n : ℕ) : Type 0 where
  pub part : take n buffer ≡ take n (drop place text)
  pub end : n ≡ 0 → (length buffer ≡ 0) ⊎ (length text ≤ place)

-- where it is told what the shelf holds, the buffer after a read has the bytes under the name, from a place on
abbrev pub ReadsHeld : Option Files → List ℕ → ℕ → List ℕ → Result ℕ Outside → Type 0
ReadsHeld held name place buffer r = IfSome held (λ files. IfOk r (ReadsText (bytes_at files name) place buffer))

-- the counts of faults before and after a read of a name: only a read that failed raises one, and it raises that of its
-- name
pub record ReadFaults {T : Type 0} (before now : List ℕ → ℕ) (name : List ℕ) (r : Result T Outside) : Type 0 where
  pub later : (n : List ℕ) → before n ≤ now n
  pub ok : OnOk r ((n : List ℕ) → now n ≡ before n)
  pub failed : r ≡ Err Failed → Rose (before name) (now name)
  pub no_memory : r ≡ Err NoMemory → (n : List ℕ) → now n ≡ before n

-- how many reads a read counts: none where there was no memory to count it, else one, whatever came of it
abbrev pub reads_made : Result ℕ Outside → ℕ
reads_made (Ok n) = 1
reads_made (Err Failed) = 1
reads_made (Err NoMemory) = 0

-- how many bytes a read gave: at an error none
abbrev pub bytes_given : Result ℕ Outside → ℕ
bytes_given (Ok n) = n
bytes_given (Err e) = 0

-- The counts of names before and after so many more are counted under one of them. That of a name that is counted rises by
-- as many, or to the last value that a count can have; that of one that isn't stays at 0; none falls, and no other name's
-- changes.
pub record CountsOn (counted : List ℕ → Bool) (before now : List ℕ → ℕ) (name : List ℕ) (more : ℕ) : Type 0 where
  pub later : before name ≤ now name
  pub most : now name ≤ before name + more
  pub all : IsTrue (counted name) → min (before name + more) (2 ^ 64 - 1) ≤ now name
  pub uncounted : IsTrue (not (counted name)) → now name ≡ 0
  pub others : (n : List ℕ) → n ≢ name → now n ≡ before n

-- the counts of the bytes taken, before and after: that of a name rose by no more than so many, and no other one changed
pub record TakesAtMost (before now : List ℕ → ℕ) (name : List ℕ) (most : ℕ) : Type 0 where
  pub here : now name ≤ before name + most
  pub others : (n : List ℕ) → n ≢ name → now n ≡ before n

-- counts before and after: that of a name may have changed, and no other one
abbrev pub OthersStay : (before now : List ℕ → ℕ) → List ℕ → Type 0
OthersStay before now name = (n : List ℕ) → n ≢ name → now n ≡ before n

-- How often a name was read, and how many bytes that gave, before and after: each of the reads gave a byte at least, but for
-- so many. A count of bytes at its last value tells no more.
abbrev pub EachGives : (reads reads' taken taken' idle : ℕ) → Type 0
EachGives reads reads' taken taken' idle = (reads' + taken ≤ reads + taken' + idle) ⊎ (2 ^ 64 - 1 ≤ taken')

-- the counts of reads and of bytes, before and after: of a name each read gave a byte, but for so many, and no other name was
-- read
pub record ReadsByBytes (reads reads' taken taken' : List ℕ → ℕ) (name : List ℕ) (idle : ℕ) : Type 0 where
  pub later : taken name ≤ taken' name
  pub here : EachGives (reads name) (reads' name) (taken name) (taken' name) idle
  pub others : OthersStay reads reads' name

-- The counts of faults and of reads, before and after a name was read: where it is counted, no other name's faults changed;
-- where it isn't, its reads didn't.
pub record CountsApart (counted : List ℕ → Bool) (faults faults' reads reads' : List ℕ → ℕ) (name : List ℕ) : Type 0 where
  pub faults_stay : IsTrue (counted name) → OthersStay faults faults' name
  pub reads_stay : IsTrue (not (counted name)) → reads' name ≡ reads name

-- The counts of faults before and after a file was read: only a read that failed raises one, and it raises that of the
-- file's name.
pub record FileFaults (before now : List ℕ → ℕ) (name : List ℕ) (failed : Type 0) : Type 0 where
  pub later : (n : List ℕ) → before n ≤ now n
  pub fault : failed → Rose (before name) (now name)
  pub others : (failed → ⊥) → (n : List ℕ) → now n ≡ before n
