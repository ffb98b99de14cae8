use Rattle.std.proofs.Common.{◌≡◌, drop, map}
use Rattle.std.specs.List.{flat_map}
use Rattle.cm_plans.proofs.walk.find_pair.Given as goal
use Rattle.std.specs.Prelude.{All}
use Rattle.cm_plans.specs.Moves.{setting}
use Rattle.cm_plans.specs.Tried.{Tried}
use Rattle.model_plans.specs.Plan.{pairs, run_two}
use Rattle.model_plans.specs.Walk.{middle_found}

abbrev pub invariant-loop-first : goal.invariant-loop-first
invariant-loop-first l = record {
  same : l.seat ≡ l.fn.seat;
  left : middle_found (setting l.q) l.fn.seat (flat_map (λ first. map (run_two first) l.rows) (drop l.first-index l.rows))
      ≡ middle_found (setting l.q) l.fn.seat (pairs l.rows);
  tried : All (Tried (setting l.q) l.q.special.items l.fn.seat.cred.groups) l.tried.items;
}
