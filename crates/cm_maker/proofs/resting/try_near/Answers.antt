use Rattle.cm_maker.proofs.Runs.{or_first}
use Rattle.cm_maker.proofs.Widenings.{then_visits}
use Rattle.cm_maker.proofs.resting.try_near.Goals as goal

pub returns-then-last-clause-visits : goal.returns-then-last-clause-visits
returns-then-last-clause-visits c =
    then_visits c.in_ok-last.ensures.visits c.in_ok-first.ensures.visits
    (or_first c.in_ok-last.last c.in_ok-first.first c.if-last.true)
