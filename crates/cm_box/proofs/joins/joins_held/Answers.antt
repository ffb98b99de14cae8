use Rattle.std.proofs.Common.{sym, arith}
use Rattle.cm_box_rows.specs.Rows.{RowHolds, RowsHold}
use Rattle.cm_box_rows.proofs.Spreading.{joins_not, joins_next, joins_all}
use Rattle.cm_box.proofs.joins.joins_held.Goals as goal

pub returns-then-not-joined_held : goal.returns-then-not-joined_held
returns-then-not-joined_held c =
    joins_not c.args.spaces.now (RowsHold c.args.bounds.now) c.args.n.0 c.loop-parent.at.0 c.in-Some.parent.0 c.in-Some.ensures.chain
    (sym c.in-Some.ensures.parent) (RowHolds c.args.row.now) c.loop-parent.invariant.same
    (rw (c.row.ensures, c.standing.ensures) at c.if-not-joined_held.ensures)

pub loop-parent-preserved : goal.loop-parent-preserved
loop-parent-preserved c = record {
  stands = omega (arith, c.in-Some.ensures.older);
  same =
      joins_next c.args.spaces.now (RowsHold c.args.bounds.now) c.args.n.0 c.loop-parent.at.0 c.in-Some.parent.0 c.in-Some.ensures.chain
      (sym c.in-Some.ensures.parent) (RowHolds c.args.row.now) c.loop-parent.invariant.same
      (rw (c.row.ensures, c.standing.ensures) at c.if-not-joined_held.ensures);
}

pub returns-in-None : goal.returns-in-None
returns-in-None c =
    joins_all c.args.spaces.now (RowsHold c.args.bounds.now) c.args.n.0 c.loop-parent.at.0 c.in-None.ensures.chain
    (sym c.in-None.ensures.parent) (RowHolds c.args.row.now) c.loop-parent.invariant.same
