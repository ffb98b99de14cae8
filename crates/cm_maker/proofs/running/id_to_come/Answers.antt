use Rattle.std.proofs.Common.{ap, sym, refl, subst}
use Rattle.cm_filter.specs.Filters.{permits}
use Rattle.cm_maker.proofs.Runs.{id_comes, if_some}
use Rattle.cm_maker.proofs.running.id_to_come.Goals as goal
use Rattle.cm_maker.specs.Running.{Comes}
use Rattle.cm_box_rows.specs.Rows.{RowHolds}
use Rattle.model_box.specs.Bounds.{BoxRow}
use Rattle.model_box.specs.Row.{HasMembers}
use Rattle.model_cred.specs.Process.{State}

pub returns-clause-comes : goal.returns-clause-comes
returns-clause-comes c =
    let p = permits c.args.setting.now.filter in
    let f = c.args.setting.now.files.now in
    let s = c.args.setting.now.state.now.spaces in
    let here = c.row_at-here.result.now in
    let members : HasMembers (RowHolds here) = subst (λ (r : BoxRow). HasMembers (RowHolds r)) c.here.view_is (c.if-is_empty.ensures.no refl) in
    if_some c.id_lacking.result (Comes p f s c.args.bounds.now c.args.row c.args.bit.kind) (λ x is.
    let both = (rw (ap (λ (state : State). state.spaces) c.st.view_is) at c.id_lacking.ensures.given x).0 is in
    id_comes p f s c.args.bounds.now c.args.row c.args.bit.kind c.args.bit.program x here c.row_at-here.ensures (sym c.if-not-permits.ensures) members
    both.0 both.1)
