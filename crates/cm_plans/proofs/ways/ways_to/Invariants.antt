use Rattle.std.proofs.Common.{◌≡◌, ℕ, ◌+◌, ◌++◌, length, map}
use Rattle.std.specs.List.{range_with_len}
use Rattle.cm_plans.proofs.ways.ways_to.Given as goal
use Rattle.cm_plans.specs.Ways.{way_of}
use Rattle.cm_state.specs.Right.{right_of}
use Rattle.model_plans.specs.Plan.{numbers}

abbrev pub invariant-loop-n : goal.invariant-loop-n
invariant-loop-n l = (m : ℕ) → l.n + m ≡ length l.spaces
    → l.ways.items ++ map (way_of l.spaces (right_of l.right)) (range_with_len l.n m) ≡ map (way_of l.spaces (right_of l.right)) (numbers l.spaces)
