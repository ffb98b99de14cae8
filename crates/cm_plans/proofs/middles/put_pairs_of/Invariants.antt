use Rattle.std.proofs.Common.{drop, map}
use Rattle.cm_plans.proofs.Putting.{Towards}
use Rattle.cm_plans.proofs.middles.put_pairs_of.Given as goal
use Rattle.model_cred.specs.Space.{Spaces}
use Rattle.model_plans.specs.Plan.{run_two}

abbrev pub invariant-loop-second : goal.invariant-loop-second
invariant-loop-second l = (spaces : Spaces)
    → Towards spaces (map (run_two l.first) (drop l.second-index l.rows)) (map (run_two l.first) l.rows) l.fn.list.items l.list.items
