use Rattle.std.proofs.Common.{◌≡◌, ◌+◌, drop, map}
use Rattle.cm_io.specs.Names.{place_of}
use Rattle.cm_io.specs.Counts.{name_of}
use Rattle.cm_io.proofs.counts.Counts.place_of.Given as goal

-- the name is none of those that were passed
abbrev pub invariant-loop-i : goal.invariant-loop-i
invariant-loop-i l = place_of (map name_of (drop l.i l.row-items)) l.name + l.i ≡ place_of (map name_of l.row-items) l.name
