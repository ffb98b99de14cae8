-- What a shelf and a sink in memory count, and which of their calls fail.
use Rattle.std.specs.Prelude.{ℕ, List, Bool, ◌||◌, not}
use Rattle.cm_io.specs.Held.{held_files, is_held}
use Rattle.cm_io.specs.Turns.{is_due}
use Rattle.cm_io.specs.Breaks.{breaks_of, is_broken}
use Rattle.cm_io.specs.declared.counts.Counts.{Counts}
use Rattle.cm_io.specs.declared.turns.Turns.{Turns}
use Rattle.cm_io.specs.declared.memory.MemShelf.{MemShelf}
use Rattle.cm_io.specs.declared.memory.MemSink.{MemSink}

-- the turns at which the reads of a shelf fail
abbrev pub shelf_turns : MemShelf → Turns
shelf_turns shelf = shelf.turns

-- what is counted for each name on a shelf
abbrev pub shelf_counts : MemShelf → Counts
shelf_counts shelf = shelf.files.counts

-- the names of files that are broken, with the places from which on they are
abbrev pub shelf_breaks : MemShelf → List (List ℕ × ℕ)
shelf_breaks shelf = breaks_of shelf.breaks

-- how many bytes the longest buffer has that a shelf was asked to fill
abbrev pub shelf_widest : MemShelf → ℕ
shelf_widest shelf = shelf.widest

-- the next read fails, if it is of this name at this place: its turn is due, no file has the name, or it is broken
abbrev pub read_fails : MemShelf → List ℕ → ℕ → Bool
read_fails shelf name at =
    (is_due shelf.turns || is_broken (breaks_of shelf.breaks) name at) || not (is_held (held_files shelf.files) name)

-- the turns at which the writes to a sink fail
abbrev pub sink_turns : MemSink → Turns
sink_turns sink = sink.turns
