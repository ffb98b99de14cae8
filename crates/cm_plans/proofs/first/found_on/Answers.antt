use Rattle.cm_plans.proofs.SeatedRuns.{found_moving}
use Rattle.cm_plans.proofs.first.found_on.Goals as goal
use Rattle.cm_plans.specs.Moves.{setting}

pub returns-in-Some : goal.returns-in-Some
returns-in-Some c =
    found_moving (setting c.args.q.now) c.args.pid c.args.seat.now _ _ c.in-Some.ensures.found
    (rw c.in-Some.ensures.same at c.in_ok-run-in-Some.ensures)
