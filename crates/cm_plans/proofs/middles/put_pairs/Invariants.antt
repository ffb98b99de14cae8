use Rattle.std.proofs.Common.{drop, map}
use Rattle.std.specs.List.{flat_map}
use Rattle.cm_plans.proofs.Putting.{Towards}
use Rattle.cm_plans.proofs.middles.put_pairs.Given as goal
use Rattle.model_cred.specs.Space.{Spaces}
use Rattle.model_plans.specs.Plan.{pairs, run_two}

abbrev pub invariant-loop-first : goal.invariant-loop-first
invariant-loop-first l = (spaces : Spaces)
    → Towards spaces (flat_map (λ first. map (run_two first) l.rows) (drop l.first-index l.rows)) (pairs l.rows) l.fn.list.items l.list.items
