use Rattle.std.proofs.Common.{sym, ap}
use Rattle.cm_filter.specs.Filters.{permits}
use Rattle.model_cred.specs.Process.{State}
use Rattle.cm_box.specs.Places.{row_of}
use Rattle.cm_box_rows.specs.Rows.{RowsHold}
use Rattle.cm_box.specs.Rules.{rule_of}
use Rattle.cm_box_rows.proofs.Tests.{on}
use Rattle.cm_box.proofs.WholeRules.{create_closed, join_closed, gains_closed, of_members}
use Rattle.cm_box.proofs.closedness.closed_at.Goals as goal

pub returns-in-Create : goal.returns-in-Create
returns-in-Create c =
    let spaces = ap (λ (s : State). s.spaces) c.st.view_is in
    let can = rw c.in-Create.is at (sym c.if-not-permits_rule.ensures) in
    rw c.in-Create.is (on (rw spaces at c.create_held.ensures)
    (create_closed (permits c.args.filter) c.args.files.now c.args.st.now.spaces (RowsHold c.args.bounds.now) can (row_of c.args.at)))

pub returns-in-Join : goal.returns-in-Join
returns-in-Join c =
    let spaces = ap (λ (s : State). s.spaces) c.st.view_is in
    let can = rw c.in-Join.is at (sym c.if-not-permits_rule.ensures) in
    rw c.in-Join.is (on (rw spaces at c.join_held.ensures)
    (join_closed (permits c.args.filter) c.args.files.now c.args.st.now.spaces (RowsHold c.args.bounds.now) can (row_of c.args.at)))

pub returns-in_default : goal.returns-in_default
returns-in_default c =
    on c.members_gain_held.ensures
    (gains_closed (permits c.args.filter) c.args.files.now c.args.st.now.spaces (RowsHold c.args.bounds.now) (rule_of c.args.rule)
    (of_members c.args.rule c.in_default.not-Create c.in_default.not-Join c.in_default.not-Maps) (sym c.if-not-permits_rule.ensures)
    (row_of c.args.at))
