use Rattle.std.specs.Prelude.{◌↔◌, ℕ, IsTrue}
use Rattle.std.proofs.lemmas.Result.{IfOk-weaker}
use Rattle.cm_base.specs.CapSet.{holds}
use Rattle.cm_sets.specs.declared.caps.CapSet.{CapSet}
use Rattle.cm_box_rows.proofs.ByFiles.{cap_here}
use Rattle.cm_box.proofs.caps.caps_by_file.Goals as goal
use Rattle.cm_box_rows.specs.Programs.{CapGiven}
use Rattle.cm_box.specs.Places.{row_of}
use Rattle.cm_box_rows.specs.Rows.{RowHolds, RowsHold}
use Rattle.model_box.specs.Files.{FileGives}

abbrev Holds : (ℕ → Type 0) → CapSet → Type 0
Holds Set caps = (x : ℕ) → IsTrue (holds caps.0 x) ↔ Set x

pub returns : goal.returns
returns c =
    let can = c.attribute_can.ensures.0 c.if-not-attribute_can.false in
    let here = cap_here c.args.bounds.now (row_of c.args.at) c.row.result.now c.row.ensures c.args.files.now c.args.k
    c.view_at-file.result.now c.view_at-file.ensures c.args.spaces.now can in
    IfOk-weaker c.gives.result (Holds (FileGives (RowHolds c.row.result.now) c.view_at-file.result.now))
    (Holds (CapGiven c.args.files.now c.args.spaces.now (RowsHold c.args.bounds.now) (row_of c.args.at) c.args.k))
    (λ caps held x. (λ has. (here x).0 ((held x).0 has), λ given. (held x).1 ((here x).1 given)))
    c.gives.ensures
