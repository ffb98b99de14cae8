use Rattle.std.proofs.Common.{sym, ap, ◌∙◌}
use Rattle.cm_plans.proofs.ways.way_of.Goals as goal
use Rattle.cm_plans.specs.Ways.{way_of}
use Rattle.cm_state.specs.Right.{right_of}
use Rattle.cm_state.specs.declared.right.Right.{Right}

pub returns-in-Cap : goal.returns-in-Cap
returns-in-Cap c =
    c.way_over.ensures c.in-Cap.field-0
    ∙ ap (λ (right : Right). way_of c.args.spaces.now (right_of right) c.args.at.0) (sym c.in-Cap.is)
