use Rattle.std.proofs.lemmas.Result.{IfOk-weaker}
use Rattle.cm_plans.proofs.SeatedRuns.{run_seated, run_unseated}
use Rattle.cm_plans.proofs.turn.run_for.Goals as goal
use Rattle.cm_plans.specs.Choices.{moves_of_three}

pub returns-in-Some : goal.returns-in-Some
returns-in-Some c =
    IfOk-weaker c.run_of.result _ _ (λ run is.
    run_seated c.args.q.now c.args.st.now c.args.pid (moves_of_three c.args.c) run.items c.requires.moves c.in-Some.seat
    (rw c.in-Some.is at c.in_ok-seat.ensures.seat) c.requires.same is) c.run_of.ensures

pub returns-in-None : goal.returns-in-None
returns-in-None c =
    run_unseated c.args.q.now c.args.st.now c.args.pid (moves_of_three c.args.c) c.new.result.items c.requires.moves
    (rw c.in-None.is at c.in_ok-seat.ensures.seat) c.new.ensures.items
