use Rattle.cm_state.specs.contracts.four_ids.FourIds as ids
use Rattle.cm_box_rows.proofs.GainedRows.{or_more}
use Rattle.cm_box.proofs.MemberIds.{three_same}
use Rattle.cm_box.proofs.start.three_ids.Goals as goal

pub returns : goal.returns
returns c = rw (← c.ids.view_is) (or_more c.join-2.result _ _ c.join-2.ensures (λ s either.
    three_same (ids.the_view c.ids.inside) c.in_ok-real.real c.in_ok-effective.effective c.in_ok-saved.saved
    c.in_ok-two.two s
    c.in_ok-real.ensures.members c.in_ok-effective.ensures.members c.in_ok-saved.ensures.members c.in_ok-two.ensures
    either))
