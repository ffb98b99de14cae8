use Rattle.std.proofs.Common.{sym, arith}
use Rattle.cm_box_rows.specs.Rows.{RowHolds, RowsHold}
use Rattle.cm_box_rows.specs.Spread.{ByJoiningTo}
use Rattle.cm_box_rows.proofs.Spreading.{joined_next, joined_all}
use Rattle.cm_box.proofs.joins.joins_gained.Goals as goal

pub loop-parent-preserved : goal.loop-parent-preserved
loop-parent-preserved c = record {
  stands = omega (arith, c.in-Some.ensures.older);
  same =
      joined_next c.args.spaces.now (RowsHold c.args.bounds.now) c.args.n.0 c.loop-parent.at.0 c.in-Some.parent.0 c.in-Some.ensures.chain
      (sym c.in-Some.ensures.parent) (RowHolds c.loop-parent.row) (RowHolds c.in_ok-row-in-Some.row)
      (ByJoiningTo c.args.spaces.now (RowsHold c.args.bounds.now) c.args.n.0) c.loop-parent.invariant.same
      (rw (c.row.ensures, c.standing.ensures) at c.in_ok-row-in-Some.ensures);
}

pub returns-in-None : goal.returns-in-None
returns-in-None c =
    joined_all c.args.spaces.now (RowsHold c.args.bounds.now) c.args.n.0 c.loop-parent.at.0 c.in-None.ensures.chain
    (sym c.in-None.ensures.parent) (RowHolds c.loop-parent.row) (ByJoiningTo c.args.spaces.now (RowsHold c.args.bounds.now) c.args.n.0)
    c.loop-parent.invariant.same
