use Rattle.std.proofs.Common.{◌≡◌, ℕ, ◌+◌, length}
use Rattle.std.specs.List.{range_with_len}
use Rattle.cm_plans.proofs.Putting.{joins_of, Towards}
use Rattle.cm_plans.proofs.middles.put_joins.Given as goal
use Rattle.model_plans.specs.Plan.{joins}

abbrev pub invariant-loop-n : goal.invariant-loop-n
invariant-loop-n l = (m : ℕ) → l.n + m ≡ length l.spaces
    → Towards l.spaces (joins_of l.at.0 (range_with_len l.n m)) (joins l.spaces l.at.0) l.fn.list.items l.list.items
