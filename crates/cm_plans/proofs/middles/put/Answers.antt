use Rattle.cm_plans.proofs.Putting.{adds_one}
use Rattle.cm_plans.proofs.middles.put.Goals as goal

pub returns : goal.returns
returns c spaces stands = adds_one spaces c.args.c c.args.list.now.items c.push.new.self.items c.in_ok-push.ensures.items stands
