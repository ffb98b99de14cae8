use Rattle.std.proofs.Common.{◌≡◌, ℕ, ◌+◌, length, map}
use Rattle.std.specs.List.{range_with_len}
use Rattle.cm_plans.proofs.Putting.{Towards}
use Rattle.cm_plans.proofs.middles.put_rows.Given as goal
use Rattle.model_cred.specs.Space.{Spaces}
use Rattle.model_plans.specs.Plan.{numbers, run_row}

abbrev pub invariant-loop-n : goal.invariant-loop-n
invariant-loop-n l = (m : ℕ) → l.n + m ≡ length l.files.rows → (spaces : Spaces)
    → Towards spaces (map run_row (range_with_len l.n m)) (map run_row (numbers l.files.rows)) l.fn.list.items l.list.items
