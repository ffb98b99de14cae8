use Rattle.std.proofs.Common.{ap, ◌∙◌}
use Rattle.cm_plans.proofs.walk.try_middle.Goals as goal
use Rattle.cm_plans.specs.Moves.{setting}
use Rattle.model_plans.specs.Move.{Seat}
use Rattle.model_plans.specs.Walk.{last_found}

pub returns-clause-found : goal.returns-clause-found
returns-clause-found c =
    c.find_last-last.ensures.found ∙ ap (last_found (setting c.args.q.now)) c.make_and_raise.ensures.seat

pub returns-clause-same : goal.returns-clause-same
returns-clause-same c =
    c.restore.ensures c.args.seat.now c.saved-old.ensures
    (ap (λ (seat : Seat). seat.cred.groups) c.find_last-last.ensures.same ∙ c.make_and_raise.ensures.groups)
