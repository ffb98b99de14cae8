use Rattle.std.proofs.Common.{ℕ, length, refl, ap, arith}
use Rattle.cm_sets.specs.Sets.{IsWithin}
use Rattle.cm_box_rows.proofs.ByFiles.{each_cap}
use borrow.Author.Count.{below_more}
use Rattle.cm_box.proofs.caps.caps_by_files_held.Goals as goal
use Rattle.cm_box_rows.specs.Programs.{CapGiven}
use Rattle.cm_box.specs.Places.{row_of}
use Rattle.cm_box_rows.specs.Rows.{RowsHold}
use Rattle.model_box.specs.Row.{PermittedCaps}

pub loop-k-preserved : goal.loop-k-preserved
loop-k-preserved c =
    let bounds = RowsHold c.args.bounds.now in
    let row = row_of c.args.at in
    let Gives = CapGiven c.args.files.now c.args.spaces.now bounds row in
    below_more (λ (k : ℕ). IsWithin (Gives k) (bounds row PermittedCaps)) c.loop-k.k c.loop-k.invariant
    (c.caps_by_file_held.ensures.0 c.if-not-caps_by_file_held.false)

pub returns : goal.returns
returns c =
    let bounds = RowsHold c.args.bounds.now in
    let row = row_of c.args.at in (
      λ _. each_cap c.args.files.now c.args.spaces.now bounds row (bounds row PermittedCaps) c.loop-k.k
          (omega (arith, ap length c.rows-k-end.ensures.value)) c.loop-k.invariant,
      λ _. refl,
    )
