use Rattle.std.proofs.Common.{ℕ, length, ap, arith}
use Rattle.cm_box_rows.proofs.ByFiles.{each_id}
use borrow.Author.Count.{below_more}
use Rattle.cm_box_rows.proofs.Spreading.{refused, granted}
use Rattle.cm_box_rows.proofs.Tests.{no, yes}
use Rattle.cm_box_rows.proofs.given.given_within.Goals as goal
use Rattle.cm_box_rows.specs.Kinds.{effective}
use Rattle.cm_box_rows.specs.Programs.{IdGiven}
use Rattle.cm_box_rows.specs.Rows.{RowHolds}
use Rattle.cm_sets.specs.Sets.{IsWithin}

pub returns-then-not-file_within : goal.returns-then-not-file_within
returns-then-not-file_within c = no _ (λ within. refused _ c.if-not-file_within.ensures (λ x given.
    within x (c.loop-k.k, given)))

pub loop-k-preserved : goal.loop-k-preserved
loop-k-preserved c =
    below_more (λ (k : ℕ). IsWithin
    (IdGiven c.args.kind c.args.files.now c.args.spaces.now c.args.n.0 (RowHolds c.args.row.now) k)
    (RowHolds c.args.row.now (effective c.args.kind))) c.loop-k.k c.loop-k.invariant
    (granted _ c.if-not-file_within.ensures)

pub returns : goal.returns
returns c = yes _ (each_id c.args.kind c.args.files.now c.args.spaces.now c.args.n.0 (RowHolds c.args.row.now)
    (RowHolds c.args.row.now (effective c.args.kind)) c.loop-k.k (omega (arith, ap length c.rows-k-end.ensures.value))
    c.loop-k.invariant)
