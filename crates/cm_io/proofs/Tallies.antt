-- What is counted under a name, as the row of the name has it.
use Rattle.std.proofs.Common.{◌≡◌, ◌<◌, ◌≤◌, ℕ, List, None, Some, length, get_or, refl}
use Rattle.std.proofs.lemmas.List.{length-map}
use Rattle.cm_io.specs.Names.{place_of}
use Rattle.cm_io.specs.Counts.{names_of, tally_of}
use Rattle.cm_io.specs.declared.counts.Count.{Count}
use Rattle.cm_io.specs.declared.counts.Counts.{Counts}
use Rattle.cm_io.specs.declared.counts.Tally.{Tally}
use Rattle.cm_io.proofs.Counting.{count_at}
use Rattle.cm_io.proofs.Places.{among_below, among_past}

-- the counts of a row
abbrev pub tally : Count → Tally
tally row = record { faults = row.faults; reads = row.reads; taken = row.taken }

-- a name that has a row has the counts of that row
pub tally_at : (counts : Counts) (name : List ℕ) (d : Count) → place_of (names_of counts) name < length counts.rows.items
    → tally_of counts name ≡ Some (tally (get_or counts.rows.items (place_of (names_of counts) name) d))
tally_at counts name d within =
    let below : place_of (names_of counts) name < length (names_of counts) = rw length-map within in
    rw (among_below (names_of counts) name below)
    (rw (
      count_at (λ row. row.faults) counts.rows.items name d within,
      count_at (λ row. row.reads) counts.rows.items name d within,
      count_at (λ row. row.taken) counts.rows.items name d within,
    ) refl)

-- a name that has none has no counts
pub tally_past : (counts : Counts) (name : List ℕ) → length counts.rows.items ≤ place_of (names_of counts) name
    → tally_of counts name ≡ None
tally_past counts name past =
    let all : length (names_of counts) ≤ place_of (names_of counts) name = rw length-map past in
    rw (among_past (names_of counts) name all) refl
