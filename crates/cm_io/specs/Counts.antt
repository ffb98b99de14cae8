-- What is counted under names: faults, reads, and the bytes that were taken.
use Rattle.std.specs.Prelude.{◌≡◌, ◌≢◌, ◌≤◌, ◌+◌, ◌-◌, ◌^◌, ℕ, min, Bool, if◌then◌else◌, List, [], ◌∷◌, ◌++◌, map, string_bytes}
use Rattle.std.specs.Prelude.{Result, Ok, Err, Option, None, Some, IsTrue}
use Rattle.std.specs.Str.{bytes_eq}
use Rattle.cm_io.specs.Names.{is_among}
use Rattle.cm_io.specs.Shelf.{ReadFaults, CountsOn, reads_made, bytes_given}
use Rattle.cm_io.specs.declared.counts.Count.{Count}
use Rattle.cm_io.specs.declared.counts.Counts.{Counts}
use Rattle.cm_io.specs.declared.counts.Tally.{Tally}
use Rattle.cm_io.specs.declared.outside.Outside.{Outside}
use Rattle.cm_io.specs.declared.outside.Outside.TheVariants.{Failed, NoMemory}

-- a count with so many more: it stays at the last value that it can have
abbrev pub with_more : ℕ → ℕ → ℕ
with_more count more = min (count + more) (2 ^ 64 - 1)

-- what is counted under a name after a read of it
abbrev pub with_read : Count → Result ℕ Outside → Count
with_read count (Ok n) = record count { reads = with_more count.reads 1; taken = with_more count.taken n }
with_read count (Err Failed) = record count { reads = with_more count.reads 1; faults = with_more count.faults 1 }
with_read count (Err NoMemory) = count

-- no count falls
pub record NoneFalls (before now : Count) : Type 0 where
  pub faults : before.faults ≤ now.faults
  pub reads : before.reads ≤ now.reads
  pub taken : before.taken ≤ now.taken

-- the bytes of the name
abbrev pub name_of : Count → List ℕ
name_of count = string_bytes count.name

-- the names that have counts
abbrev pub names_of : Counts → List (List ℕ)
names_of counts = map name_of counts.rows.items

-- whether a name has counts
abbrev pub counts_name : Counts → List ℕ → Bool
counts_name counts name = is_among (names_of counts) name

-- names with one more at their end, where it isn't among them
abbrev pub noted : List (List ℕ) → List ℕ → List (List ℕ)
noted names name = if is_among names name then names else names ++ name ∷ []

-- a count of the first of these rows that has a name; 0 where none has it
abbrev pub count_of : (Count → ℕ) → List Count → List ℕ → ℕ
count_of of [] name = 0
count_of of (row ∷ rows) name = if bytes_eq (name_of row) name then of row else count_of of rows name

-- the faults of a name
abbrev pub faults_of : Counts → List ℕ → ℕ
faults_of counts name = count_of (λ row. row.faults) counts.rows.items name

-- the reads of a name
abbrev pub reads_of : Counts → List ℕ → ℕ
reads_of counts name = count_of (λ row. row.reads) counts.rows.items name

-- the bytes that were taken under a name
abbrev pub taken_of : Counts → List ℕ → ℕ
taken_of counts name = count_of (λ row. row.taken) counts.rows.items name

-- all that is counted under a name, where it has counts
abbrev pub tally_of : Counts → List ℕ → Option Tally
tally_of counts name =
    if counts_name counts name
    then Some (record {
      faults = faults_of counts name;
      reads = reads_of counts name;
      taken = taken_of counts name;
    })
    else None

-- no read was made, no byte was taken, and nothing failed
pub record StartsCounts (counts : Counts) : Type 0 where
  pub faults : (n : List ℕ) → faults_of counts n ≡ 0
  pub reads : (n : List ℕ) → reads_of counts n ≡ 0
  pub taken : (n : List ℕ) → taken_of counts n ≡ 0

-- the same names have counts, and no count changed
pub record SameCounts (old new : Counts) : Type 0 where
  pub names : names_of new ≡ names_of old
  pub faults : (n : List ℕ) → faults_of new n ≡ faults_of old n
  pub reads : (n : List ℕ) → reads_of new n ≡ reads_of old n
  pub taken : (n : List ℕ) → taken_of new n ≡ taken_of old n

-- A name is noted: where it has no counts, it gets some, all 0, after those of all other names. No count changes. Where
-- that isn't done, nothing changes; where the name has counts, it is done.
pub record NotesName (old new : Counts) (name : List ℕ) (done : Bool) : Type 0 where
  pub known : IsTrue (counts_name old name) → IsTrue done
  pub names : names_of new ≡ (if done then noted (names_of old) name else names_of old)
  pub faults : (n : List ℕ) → faults_of new n ≡ faults_of old n
  pub reads : (n : List ℕ) → reads_of new n ≡ reads_of old n
  pub taken : (n : List ℕ) → taken_of new n ≡ taken_of old n

-- a read of a name is counted, where the name has counts
pub record CountsRead (old new : Counts) (name : List ℕ) (read : Result ℕ Outside) : Type 0 where
  pub names : names_of new ≡ names_of old
  pub faults : IsTrue (counts_name old name) → ReadFaults (faults_of old) (faults_of new) name read
  pub other_faults : (n : List ℕ) → n ≢ name → faults_of new n ≡ faults_of old n
  pub reads : CountsOn (counts_name old) (reads_of old) (reads_of new) name (reads_made read)
  pub taken : CountsOn (counts_name old) (taken_of old) (taken_of new) name (bytes_given read)
