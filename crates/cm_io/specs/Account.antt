-- What a shelf holds and has counted, and what a call did to that.
use Rattle.std.specs.Prelude.{◌≡◌, ℕ, Bool, List, Option}
use Rattle.cm_io.specs.Shelf.{AsksForPieces, CountsApart, FileFaults, Files, ReadsByBytes, TakesAtMost}
use Rattle.cm_io.specs.declared.shelf.Shelf.{Ghosts}

-- The files that a shelf holds, where that is told; the names whose reads it counts; under each name the faults, the
-- reads, and the bytes that were taken; and how many bytes the longest buffer has that it was asked to fill.
pub record Account : Type 0 where
  pub held : Option Files
  pub counted : List ℕ → Bool
  pub faults : List ℕ → ℕ
  pub reads : List ℕ → ℕ
  pub taken : List ℕ → ℕ
  pub widest : ℕ

-- the account of a shelf
abbrev pub account : {H : Type 0} → Ghosts H → H → Account
account g shelf = record {
  held = g.held shelf;
  counted = g.counted shelf;
  faults = g.faults shelf;
  reads = g.reads shelf;
  taken = g.taken shelf;
  widest = g.widest shelf;
}

-- A file was read, and no other: what is held stays, and which names are counted. At most so many of its bytes were
-- taken, and each read gave one, but for so many; no buffer was longer than a piece. Its count of faults rose where a
-- read failed; no other count of faults changed, where the name is counted, and none did where no read failed.
pub record ReadsFile (old new : Account) (name : List ℕ) (most idle : ℕ) (failed : Type 0) : Type 0 where
  pub held : new.held ≡ old.held
  pub counted : (n : List ℕ) → new.counted n ≡ old.counted n
  pub faults : FileFaults old.faults new.faults name failed
  pub takes : TakesAtMost old.taken new.taken name most
  pub reads : ReadsByBytes old.reads new.reads old.taken new.taken name idle
  pub apart : CountsApart old.counted old.faults new.faults old.reads new.reads name
  pub pieces : AsksForPieces old.widest new.widest
