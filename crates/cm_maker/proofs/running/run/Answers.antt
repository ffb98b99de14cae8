use Rattle.cm_maker.proofs.Runs.{or_first}
use Rattle.cm_maker.proofs.Widenings.{then_visits}
use Rattle.cm_maker.proofs.running.run.Goals as goal

pub returns-then-user : goal.returns-then-user
returns-then-user c =
    then_visits c.in_ok-user.ensures c.in_ok-group.ensures
    (or_first c.in_ok-user.user c.in_ok-group.group c.if-user.true)
