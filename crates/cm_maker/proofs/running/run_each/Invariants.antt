use Rattle.cm_maker.specs.Widening.{VisitsIn}
use Rattle.cm_maker.proofs.running.run_each.Given as goal

abbrev pub invariant-loop-runner : goal.invariant-loop-runner
invariant-loop-runner l = VisitsIn l.setting l.row l.fn.bounds l.bounds l.more
