use Rattle.cm_plans.proofs.runs.put.Goals as goal

pub returns-in-TakeGroup-clause-run : goal.returns-in-TakeGroup-clause-run
returns-in-TakeGroup-clause-run c = rw c.in-TakeGroup.is c.put_group.ensures.run

pub returns-in-TakeGroup-clause-seat : goal.returns-in-TakeGroup-clause-seat
returns-in-TakeGroup-clause-seat c = rw c.in-TakeGroup.is c.put_group.ensures.seat
