use Rattle.std.proofs.Common.{ℕ}
use Rattle.std.specs.Prelude.{◌↔◌}
use Rattle.cm_box_rows.proofs.Gathered.{GivenBelow}
use Rattle.cm_box_rows.proofs.given.ids_given.Given as goal
use Rattle.cm_box_rows.specs.Programs.{IdGiven}
use Rattle.cm_box_rows.specs.Rows.{RowHolds}
use Rattle.cm_idset.specs.Held.{Held}

abbrev pub invariant-loop-k : goal.invariant-loop-k
invariant-loop-k l =
    (x : ℕ) → Held l.ids x ↔ GivenBelow (IdGiven l.kind l.files l.spaces l.n.0 (RowHolds l.row)) l.k x
