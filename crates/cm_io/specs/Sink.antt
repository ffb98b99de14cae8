-- What the writes of a sink leave written, and how its count of faults tells why a write failed.
use Rattle.std.specs.Prelude.{◌≡◌, ◌≤◌, ℕ, List, [], ◌++◌, take, Option, option_map, Result, Ok, Err, OnOk}
use Rattle.cm_io.specs.declared.outside.Outside.{Outside}
use Rattle.cm_io.specs.declared.outside.Outside.TheVariants.{Failed, NoMemory}
use Rattle.cm_io.specs.Shelf.{Rose}

-- what is written after these bytes more, where it is told
abbrev pub then_written : Option (List ℕ) → List ℕ → Option (List ℕ)
then_written written more = option_map (λ old. old ++ more) written

-- the bytes of a piece that a write took: its first n, and none at an error
abbrev pub sent : List ℕ → Result ℕ Outside → List ℕ
sent piece (Ok n) = take n piece
sent piece (Err e) = []

-- the count of faults before and after a write: only a write that failed raises it
pub record WriteFaults {T : Type 0} (before now : ℕ) (r : Result T Outside) : Type 0 where
  pub later : before ≤ now
  pub ok : OnOk r (now ≡ before)
  pub failed : r ≡ Err Failed → Rose before now
  pub no_memory : r ≡ Err NoMemory → now ≡ before
