use Rattle.std.proofs.Common.{◌≡◌, ℕ, ◌+◌, ◌++◌, length}
use Rattle.std.specs.List.{range_with_len}
use Rattle.cm_plans.proofs.special.special_rows.Given as goal
use Rattle.cm_plans.specs.Special.{special_of}
use Rattle.model_plans.specs.Plan.{numbers}

abbrev pub invariant-loop-n : goal.invariant-loop-n
invariant-loop-n l = (m : ℕ) → l.n + m ≡ length l.rows
    → l.list.items ++ special_of l.rows (range_with_len l.n m) ≡ special_of l.rows (numbers l.rows)
