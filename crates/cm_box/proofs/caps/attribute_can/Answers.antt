use Rattle.std.proofs.Common.{sym, ◌∙◌}
use Rattle.cm_box.proofs.caps.attribute_can.Goals as goal

pub returns : goal.returns
returns c =
    let program = sym c.is_program.ensures ∙ c.if-not-is_program.false in
    let takes = rw c.view_at-file.ensures at (c.takes_can.ensures.0 c.if-not-takes_can.false) in
    let told = rw (c.row.ensures, c.view_at-file.ensures) at c.can_run.ensures in
    (λ is. (program, told.0 is, takes), λ can. told.1 can.1)
