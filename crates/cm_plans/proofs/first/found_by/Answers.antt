use Rattle.std.proofs.lemmas.Result.{IfOk-weaker}
use Rattle.cm_plans.proofs.SeatedRuns.{found_seated, found_unseated}
use Rattle.cm_plans.proofs.first.found_by.Goals as goal

pub returns-in-Some : goal.returns-in-Some
returns-in-Some c =
    IfOk-weaker c.found_on.result _ _ (λ found is.
    found_seated c.args.q.now c.args.st.now c.args.pid c.requires.moves c.in-Some.seat found (rw c.in-Some.is at c.in_ok-seat.ensures.seat)
    c.requires.same is) c.found_on.ensures

pub returns-in-None : goal.returns-in-None
returns-in-None c =
    found_unseated c.args.q.now c.args.st.now c.args.pid c.requires.moves (rw c.in-None.is at c.in_ok-seat.ensures.seat)
