use Rattle.cm_maker.specs.Widening.{VisitsIn}
use Rattle.cm_maker.proofs.running.run_programs.Given as goal

abbrev pub invariant-loop-program : goal.invariant-loop-program
invariant-loop-program l = VisitsIn l.setting l.row l.fn.bounds l.bounds l.more

abbrev pub invariant-loop : goal.invariant-loop
invariant-loop l = VisitsIn l.setting l.row l.fn.bounds l.bounds l.more
