use Rattle.std.proofs.Common.{◌≡◌, false}
use Rattle.cm_maker.specs.Widening.{RestsIn, VisitsIn}
use Rattle.cm_maker.proofs.resting.try_rules.Given as goal

abbrev pub invariant-loop-k : goal.invariant-loop-k
invariant-loop-k l = record {
  visits : VisitsIn l.setting l.row l.fn.bounds l.bounds l.more;
  closed : l.more ≡ false → RestsIn l.setting l.bounds l.row l.from l.k;
}
