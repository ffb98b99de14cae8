use Rattle.std.proofs.Common.{ℕ, ◌<◌}
use Rattle.cm_box_rows.proofs.given.given_within.Given as goal
use Rattle.cm_box_rows.specs.Kinds.{effective}
use Rattle.cm_box_rows.specs.Programs.{IdGiven}
use Rattle.cm_box_rows.specs.Rows.{RowHolds}
use Rattle.cm_sets.specs.Sets.{IsWithin}

abbrev pub invariant-loop-k : goal.invariant-loop-k
invariant-loop-k l =
    (k : ℕ) → k < l.k → IsWithin (IdGiven l.kind l.files l.spaces l.n.0 (RowHolds l.row) k)
    (RowHolds l.row (effective l.kind))
