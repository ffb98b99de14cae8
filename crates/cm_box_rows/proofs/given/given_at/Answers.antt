use Rattle.std.proofs.Common.{sym}
use Rattle.cm_box_rows.proofs.given.given_at.Goals as goal

pub returns-clause-given : goal.returns-clause-given
returns-clause-given c = λ x.
    let same = rw c.view_at.ensures at (c.in_ok-id.ensures.given x) in
    (λ is. (sym c.if-not-is_program.ensures, same.0 is), λ both. same.1 both.1)
