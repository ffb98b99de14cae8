use Rattle.std.proofs.Common.{ℕ}
use Rattle.std.specs.Prelude.{◌↔◌, IsTrue}
use Rattle.cm_base.specs.CapSet.{holds}
use Rattle.cm_box_rows.proofs.Gathered.{GivenBelow}
use Rattle.cm_box.proofs.caps.caps_by_files.Given as goal
use Rattle.cm_box_rows.specs.Programs.{CapGiven}
use Rattle.cm_box.specs.Places.{row_of}
use Rattle.cm_box_rows.specs.Rows.{RowsHold}

abbrev pub invariant-loop-k : goal.invariant-loop-k
invariant-loop-k l =
    (x : ℕ) → IsTrue (holds l.caps.0 x) ↔ GivenBelow (CapGiven l.files l.spaces (RowsHold l.bounds) (row_of l.at)) l.k x
