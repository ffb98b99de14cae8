use Rattle.std.proofs.Common.{◌≡◌, sym, subst, ◌∙◌}
use Rattle.cm_plans.proofs.walk.is_made.Goals as goal
use Rattle.cm_plans.specs.Moves.{setting, move_of}
use Rattle.model_plans.specs.Move.{Seat}
use Rattle.model_plans.specs.Walk.{after}

pub returns-clause-none : goal.returns-clause-none
returns-clause-none c not =
    subst (λ (seat : Seat). after (setting c.args.q.now) seat (move_of c.args.m) ≡ seat) c.make.ensures.seat
    (sym c.make-made.ensures.seat ∙ c.make-made.ensures.unchanged not)

pub returns-clause-same : goal.returns-clause-same
returns-clause-same c = c.restore.ensures c.args.seat.now c.saved-old.ensures (c.make-made.ensures.groups ∙ c.make.ensures.groups)
