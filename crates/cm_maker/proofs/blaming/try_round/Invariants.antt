use Rattle.std.proofs.Common.{◌≡◌, ℕ, ◌+◌, ◌*◌, length}
use Rattle.cm_filter.specs.Filters.{permits}
use Rattle.cm_maker.specs.Sweeping.{Sweeps, KeepsApart}
use Rattle.cm_maker.proofs.blaming.try_round.Given as goal
use Rattle.cm_state.specs.Right.{right_of}
use Rattle.model_verdict.specs.Sweep.{row_count}

abbrev pub invariant-loop-k : goal.invariant-loop-k
invariant-loop-k l = record {
  count : length l.bounds ≡ length l.fn.bounds;
  apart : KeepsApart l.setting.state.now.spaces (right_of l.right) l.fn.bounds l.bounds;
  swept : (round k : ℕ) → k ≡ (14 * round + l.k) * row_count l.setting.state.now.spaces
      → Sweeps (permits l.setting.filter) l.setting.files.now l.setting.state.now (14 * round * row_count l.setting.state.now.spaces) k
      l.fn.bounds l.bounds;
}
