-- What a shelf of real files counts, and the bytes of a real sink.
use Rattle.std.specs.Prelude.{◌≡◌, ◌≢◌, ℕ, List, ◌||◌, IsTrue, Result, Option, if◌then◌else◌}
use Rattle.cm_io.specs.Shelf.{ReadFaults, CountsOn, reads_made, bytes_given}
use Rattle.cm_io.specs.Counts.{faults_of, reads_of, taken_of, counts_name, names_of}
use Rattle.cm_io.specs.declared.outside.Outside.{Outside}
use Rattle.cm_io.specs.declared.real.Tally.{Tally}
use Rattle.cm_io.specs.declared.real.RealShelf.{RealShelf}
use Rattle.cm_io.specs.declared.real.RealSink.{RealSink}

-- what a shelf counts: for each name that was handed over, and the faults of all others
abbrev pub real_tally : {R File Dir : Type 0} → RealShelf R File Dir → Tally
real_tally shelf = shelf.tally

-- the faults counted for a name: its own, or those of all names that have no counts of their own
abbrev pub tally_faults : Tally → List ℕ → ℕ
tally_faults tally name = if counts_name tally.counts name then faults_of tally.counts name else tally.others

-- at most the count of faults that serves this name changed
pub record OtherTalliesStay (old new : Tally) (name : List ℕ) : Type 0 where
  pub names : names_of new.counts ≡ names_of old.counts
  pub others : (n : List ℕ) → n ≢ name → IsTrue (counts_name old.counts n || counts_name old.counts name)
      → tally_faults new n ≡ tally_faults old n

-- a read is counted under its name
pub record TalliesRead (old new : Tally) (name : List ℕ) (read : Result ℕ Outside) : Type 0 where
  pub faults : ReadFaults (tally_faults old) (tally_faults new) name read
  pub reads : CountsOn (counts_name old.counts) (reads_of old.counts) (reads_of new.counts) name (reads_made read)
  pub taken : CountsOn (counts_name old.counts) (taken_of old.counts) (taken_of new.counts) name (bytes_given read)
  pub others : OtherTalliesStay old new name

-- the bytes that the writer of a sink holds, as the writer's contract tells of them
abbrev pub writer_bytes : {W : Type 0} → (W → Option (List ℕ)) → RealSink W → Option (List ℕ)
writer_bytes contents sink = contents sink.writer
