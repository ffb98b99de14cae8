use Rattle.cm_box_rows.specs.contracts.row.BoxRow.{the_view}
use Rattle.cm_idset.specs.Held.{Held}
use Rattle.cm_box_rows.proofs.Tests.{within_told}
use Rattle.cm_box_rows.proofs.CallRules.{all_groups}
use Rattle.cm_box_rows.proofs.calls.set_groups_held.Goals as goal

pub returns : goal.returns
returns c = rw (← c.row.view_is) (all_groups (the_view c.row.inside) c.holds.result c.within.result c.holds.ensures
    c.if-not-holds.false (within_told c.within.result (Held c.row.inside.mg) (Held c.row.inside.s) c.within.ensures.yes
    c.within.ensures.no))
