use Rattle.std.proofs.Common.{ap, arith, length}
use Rattle.cm_filter.specs.Filters.{permits}
use Rattle.model_cred.specs.Process.{State}
use Rattle.cm_box_rows.specs.Rows.{RowsHold}
use Rattle.cm_box.specs.Rules.{rule_of}
use Rattle.cm_box.proofs.Openings.{next_row_closed, all_rows_closed}
use Rattle.cm_box_rows.proofs.Spreading.{granted}
use Rattle.cm_box.proofs.closedness.open_row.Goals as goal

pub loop-row-preserved : goal.loop-row-preserved
loop-row-preserved c =
    next_row_closed (permits c.args.filter) c.args.files.now c.args.st.now.spaces (RowsHold c.args.bounds.now) (rule_of c.args.rule) c.loop-row.row
    (granted _ (rw c.of_number.ensures at c.if-not-closed_at.ensures)) c.loop-row.invariant

pub returns-clause-none : goal.returns-clause-none
returns-clause-none c =
    let count = ap (λ (s : State). length s.spaces) c.st.view_is in
    all_rows_closed (permits c.args.filter) c.args.files.now c.args.st.now.spaces (RowsHold c.args.bounds.now) (rule_of c.args.rule) c.loop-row.row
    (omega (arith, count, c.count-row-end.ensures, c.loop-row-test.false)) c.loop-row.invariant
