use Rattle.std.proofs.Common.{◌<◌, ap, arith, length, subst}
use Rattle.std.proofs.lemmas.Bool.{ltb-true}
use Rattle.cm_box.proofs.Meeting.{first_met}
use Rattle.cm_box.proofs.Numbers.{all_rows}
use Rattle.cm_box.proofs.rights.meets.Goals as goal
use Rattle.cm_box_rows.specs.Rows.{RowsHold}
use Rattle.cm_state.specs.Right.{right_of}
use Rattle.model_cred.specs.Process.{State}
use Rattle.model_box.specs.Meets.{MeetsAt}
use Rattle.model_box.specs.Row.{Row, row_at, space_under}

pub returns-clause-none : goal.returns-clause-none
returns-clause-none c met =
    let spaces = c.args.st.now.spaces in
    let count = ap (λ (s : State). length s.spaces) c.st.view_is in
    let low : space_under met.0 < length spaces = ltb-true (space_under met.0) (length spaces) met.1 in
    all_rows (λ (row : Row). ¬ MeetsAt spaces (RowsHold c.args.bounds.now) (right_of c.args.right.now) row) (length spaces)
    (λ y below. c.loop-row.invariant y (omega (arith, count))) met.0 low met.2

pub returns-then-meets_at-clause-first : goal.returns-then-meets_at-clause-first
returns-then-meets_at-clause-first c =
    let count = ap (λ (s : State). length s.spaces) c.st.view_is in
    first_met c.args.st.now.spaces (RowsHold c.args.bounds.now) (right_of c.args.right.now) c.loop-row.row (omega (arith, count))
    (subst (λ (s : State). MeetsAt s.spaces (RowsHold c.args.bounds.now) (right_of c.args.right.now) (row_at c.loop-row.row)) c.st.view_is
    (rw c.of_number.ensures at (c.meets_at.ensures.0 c.if-meets_at.true))) c.loop-row.invariant
