use Rattle.cm_box_rows.specs.Rows.{RowHolds}
use Rattle.cm_box_rows.proofs.MemberRows.{member_more, all_members}
use Rattle.cm_box.proofs.start.start_row.Goals as goal

pub loop-pid-preserved : goal.loop-pid-preserved
loop-pid-preserved c =
    member_more c.args.st.now c.args.members.now c.loop-pid.pid-index c.args.n.0 c.pid-item.result
    (RowHolds c.loop-pid.row) (RowHolds c.in_ok-row-2.row)
    c.loop-pid-test.true c.pid-item.is c.loop-pid.invariant c.in_ok-row-2.ensures

pub returns : goal.returns
returns c =
    all_members c.args.st.now c.args.members.now c.loop-pid.pid-index c.args.n.0 (RowHolds c.loop-pid.row)
    c.loop-pid-test.false c.loop-pid.invariant
