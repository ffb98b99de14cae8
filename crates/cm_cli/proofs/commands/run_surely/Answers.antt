use Rattle.cm_cli.proofs.Complete.{none_rose_surely}
use Rattle.cm_cli.proofs.commands.run_surely.Goals as goal

pub returns-clause-complete : goal.returns-clause-complete
returns-clause-complete c valid = c.run.ensures.complete valid (none_rose_surely _)

pub returns-clause-settled : goal.returns-clause-settled
returns-clause-settled c valid asks = c.run.ensures.settled valid (none_rose_surely _) asks
