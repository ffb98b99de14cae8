use Rattle.cm_cli.proofs.Claiming.{certificate_put}
use Rattle.cm_cli.proofs.claims.put_claimed.Goals as goal
use Rattle.cm_declared.specs.World.{world_of}

pub returns-in-Certificate-clause-report : goal.returns-in-Certificate-clause-report
returns-in-Certificate-clause-report c = λ q is j gives.
    certificate_put c.put_check.result q (world_of c.args.w.now) c.args.machine.state c.args.question c.args.kind
    c.args.bytes.now j
    c.args.text.now.items c.put_check.new.text.items is c.in-Certificate.is c.requires.size gives
    c.put_check.ensures.report
