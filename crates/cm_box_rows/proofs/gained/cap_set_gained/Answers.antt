use Rattle.std.proofs.Common.{◌∙◌}
use Rattle.model_box.specs.Bounds.{BoxRow}
use Rattle.cm_box_rows.specs.contracts.row.BoxRow.{the_view}
use Rattle.std.specs.Prelude.{IsTrue}
use Rattle.cm_base.specs.CapSet.{holds}
use Rattle.cm_box_rows.specs.Rows.{RowHolds}
use Rattle.model_rules.specs.Caps.{cap_setpcap}
use Rattle.cm_box_rows.proofs.GainedRows.{over, inheritable_row, settable_is}
use Rattle.cm_box_rows.proofs.gained.cap_set_gained.Goals as goal

pub returns : goal.returns
returns c = rw (← c.row.view_is)
    (over (the_view c.result.inside) (λ (b : BoxRow). record b { inheritable = c.in_ok-i.i.0 }) _
    (c.result.view_is ∙ c.least.ensures)
    (inheritable_row (RowHolds (the_view c.row.inside)) c.in_ok-i.i.0
    (settable_is (λ x. IsTrue (holds c.in_ok-i.i.0 x)) (λ x. IsTrue (holds c.row.inside.p.0 x))
    (λ x. IsTrue (holds c.row.inside.b.0 x))
    (IsTrue c.holds.result) (IsTrue (holds c.row.inside.p.0 cap_setpcap)) c.holds.ensures c.in_ok-i.ensures)))
