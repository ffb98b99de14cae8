use Rattle.cm_box_rows.specs.contracts.row.BoxRow.{the_view}
use Rattle.cm_box_rows.proofs.CallRules.{root_open}
use Rattle.cm_box_rows.proofs.calls.secure_bits_held.Goals as goal

pub returns : goal.returns
returns c = rw (← c.row.view_is) (root_open (the_view c.row.inside) c.holds.result c.holds-3.result c.holds.ensures
    c.if-not-holds.false (c.holds-2.ensures.0 c.if-not-holds-2.false) c.holds-3.ensures)
