use Rattle.std.proofs.Common.{ℕ, length, ap, arith}
use Rattle.std.specs.Prelude.{IsTrue}
use Rattle.cm_base.specs.CapSet.{holds}
use Rattle.cm_sets.specs.declared.caps.CapSet.{CapSet}
use Rattle.cm_box_rows.proofs.ByFiles.{all_caps}
use Rattle.cm_box_rows.proofs.Gathered.{gathered_join}
use Rattle.cm_box.proofs.caps.caps_by_files.Goals as goal
use Rattle.cm_box_rows.specs.Programs.{CapGiven}
use Rattle.cm_box.specs.Places.{row_of}
use Rattle.cm_box_rows.specs.Rows.{RowsHold}

abbrev In : CapSet → ℕ → Type 0
In caps x = IsTrue (holds caps.0 x)

pub loop-k-preserved : goal.loop-k-preserved
loop-k-preserved c =
    gathered_join (CapGiven c.args.files.now c.args.spaces.now (RowsHold c.args.bounds.now) (row_of c.args.at))
    (In c.loop-k.caps) (In c.in_ok-more.more) (In c.in_ok-caps.caps) c.loop-k.k c.loop-k.invariant
    c.in_ok-more.ensures c.in_ok-caps.ensures

pub returns : goal.returns
returns c =
    all_caps c.args.files.now c.args.spaces.now (RowsHold c.args.bounds.now) (row_of c.args.at) (In c.loop-k.caps) c.loop-k.k
    (omega (arith, ap length c.rows-k-end.ensures.value)) c.loop-k.invariant
