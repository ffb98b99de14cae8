use Rattle.std.proofs.Common.{◌∙◌, ap}
use Rattle.cm_plans.proofs.Raised.{raised}
use Rattle.cm_plans.proofs.choices.make_and_raise.Goals as goal
use Rattle.cm_plans.specs.Moves.{setting}
use Rattle.model_plans.specs.Move.{Raise, Seat}
use Rattle.model_plans.specs.Walk.{after}

pub returns-clause-seat : goal.returns-clause-seat
returns-clause-seat c =
    c.make.ensures.seat ∙ ap (λ (seat : Seat). after (setting c.args.q.now) seat Raise) c.make_choice.ensures.seat
    ∙ raised (setting c.args.q.now) c.args.seat.now c.args.c
