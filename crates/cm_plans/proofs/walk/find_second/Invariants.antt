use Rattle.std.proofs.Common.{◌≡◌, drop, map}
use Rattle.cm_plans.proofs.walk.find_second.Given as goal
use Rattle.cm_plans.specs.Moves.{setting}
use Rattle.model_plans.specs.Plan.{run_row}
use Rattle.model_plans.specs.Walk.{middle_found}

abbrev pub invariant-loop-second : goal.invariant-loop-second
invariant-loop-second l = record {
  same : l.seat ≡ l.fn.seat;
  left : middle_found (setting l.q) l.fn.seat (map run_row (drop l.second-index l.rows))
      ≡ middle_found (setting l.q) l.fn.seat (map run_row l.rows);
}
