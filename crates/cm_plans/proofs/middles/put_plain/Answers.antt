use Rattle.cm_plans.proofs.middles.put_plain.Goals as goal

pub returns : goal.returns
returns c spaces = c.in_ok-put.ensures spaces tt
