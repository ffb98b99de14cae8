-- The files of a command, each by its name and the limit of its size: the counts of their faults, and what is taken of
-- them.
use Rattle.std.specs.Prelude.{◌≡◌, ◌≢◌, ◌⊎◌, ◌<◌, ◌≤◌, ◌+◌, ℕ, Bool, IsTrue, bytes_eq, if◌then◌else◌, List, [], ◌∷◌}
use Rattle.cm_base.specs.Limited.{limit_number}
use Rattle.cm_base.specs.declared.limited.Limited.{Limited}
use Rattle.cm_io.specs.Account.{Account}
use Rattle.cm_io.specs.Shelf.{AsksForPieces, CountsApart, EachGives, Rose}

-- ---- faults
-- the count of one of these files rose
abbrev pub AnyRose : List (List ℕ × Limited) → (before now : List ℕ → ℕ) → Type 0
AnyRose [] before now = ⊥
AnyRose (file ∷ files) before now = Rose (before file.0) (now file.0) ⊎ AnyRose files before now

-- the counts of faults before and after some of these files were read
pub record FilesFaults (before now : List ℕ → ℕ) (files : List (List ℕ × Limited)) (failed : Type 0) : Type 0 where
  pub later : (n : List ℕ) → before n ≤ now n
  pub fault : failed → AnyRose files before now
  pub others : (failed → ⊥) → (n : List ℕ) → now n ≡ before n

-- ---- what is taken and read
-- so many at this name, and none at another
abbrev pub under : List ℕ → ℕ → List ℕ → ℕ
under name most n = if bytes_eq n name then most else 0

-- so many under a name for each of the files that has it
abbrev pub for_files : List (List ℕ × Limited) → (Limited → ℕ) → List ℕ → ℕ
for_files [] many n = 0
for_files (file ∷ files) many n = under file.0 (many file.1) n + for_files files many n

-- the limit and one more
abbrev pub one_past : Limited → ℕ
one_past l = limit_number l + 1

-- the most bytes that are taken under a name for the files: the limit and one byte of each that has the name
abbrev pub most_for : List (List ℕ × Limited) → List ℕ → ℕ
most_for files n = for_files files one_past n

-- no more than that is taken under any name
abbrev pub TakesFor : List (List ℕ × Limited) → (taken taken' : List ℕ → ℕ) → Type 0
TakesFor files taken taken' = (n : List ℕ) → taken' n ≤ taken n + most_for files n

-- the name is that of one of the files
abbrev pub IsFileOf : List (List ℕ × Limited) → List ℕ → Type 0
IsFileOf [] n = ⊥
IsFileOf (file ∷ files) n = (n ≡ file.0) ⊎ IsFileOf files n

-- No other name is read, and each file at most once for each byte that is taken of it, and once more.
pub record ReadsFor (files : List (List ℕ × Limited)) (reads reads' taken taken' : List ℕ → ℕ) : Type 0 where
  pub later : (n : List ℕ) → taken n ≤ taken' n
  pub others : (n : List ℕ) → ¬ IsFileOf files n → reads' n ≡ reads n
  pub each : (n : List ℕ) → EachGives (reads n) (reads' n) (taken n) (taken' n) (for_files files (λ l. 1) n)

-- The counts of a log, and of a file that is read after it, where no read of the log failed. Where the count of a name
-- other than both rose, the log wasn't read, if the file is counted (the faults of one that isn't may be counted under
-- any name). Where that of a name other than the file's rose, the file wasn't read, if it isn't the log.
pub record BothApart (counted : List ℕ → Bool) (faults faults' reads reads' : List ℕ → ℕ) (log file : List ℕ)
    : Type 0 where
  pub log_unread : IsTrue (counted file) → (n : List ℕ) → n ≢ log → n ≢ file → faults n < faults' n
      → reads' log ≡ reads log
  pub file_unread : file ≢ log → (n : List ℕ) → n ≢ file → faults n < faults' n → reads' file ≡ reads file

-- The counts of faults and of reads are apart, before and after at most one file was read, or a log and then a file: those
-- of other names stay.
abbrev pub ApartFor : List (List ℕ × Limited) → (counted : List ℕ → Bool) (faults faults' reads reads' : List ℕ → ℕ)
    → Type 0
ApartFor [] counted faults faults' reads reads' = Unit {0}
ApartFor (file ∷ []) counted faults faults' reads reads' = CountsApart counted faults faults' reads reads' file.0
ApartFor (log ∷ file ∷ files) counted faults faults' reads reads' =
    BothApart counted faults faults' reads reads' log.0 file.0

-- ---- accounts
-- These files were read, in their order, and no other, and it failed so: what is held stays; of each file at most its limit
-- and one byte were taken, each read gave a byte, but for one of each file, and no buffer was longer than a piece.
pub record ReadsFiles (old new : Account) (files : List (List ℕ × Limited)) (failed : Type 0) : Type 0 where
  pub held : new.held ≡ old.held
  pub faults : FilesFaults old.faults new.faults files failed
  pub takes : TakesFor files old.taken new.taken
  pub reads : ReadsFor files old.reads new.reads old.taken new.taken
  pub apart : ApartFor files old.counted old.faults new.faults old.reads new.reads
  pub pieces : AsksForPieces old.widest new.widest
