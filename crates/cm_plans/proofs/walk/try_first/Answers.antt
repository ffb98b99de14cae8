use Rattle.std.proofs.Common.{ap, ◌∙◌}
use Rattle.cm_plans.proofs.walk.try_first.Goals as goal
use Rattle.model_plans.specs.Move.{Seat}

pub returns-in-Some-clause-same : goal.returns-in-Some-clause-same
returns-in-Some-clause-same c =
    c.restore.ensures c.args.seat.now c.saved-old.ensures
    (ap (λ (seat : Seat). seat.cred.groups) c.find_middle-found.ensures.same ∙ c.make_choice.ensures.groups ∙ c.make.ensures.groups)

pub returns-in-None-clause-same : goal.returns-in-None-clause-same
returns-in-None-clause-same c =
    c.restore.ensures c.args.seat.now c.saved-old.ensures
    (ap (λ (seat : Seat). seat.cred.groups) c.find_middle-found.ensures.same ∙ c.make_choice.ensures.groups ∙ c.make.ensures.groups)
