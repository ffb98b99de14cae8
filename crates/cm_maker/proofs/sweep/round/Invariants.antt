use Rattle.std.proofs.Common.{◌≡◌, ℕ, ◌+◌, ◌*◌, length}
use Rattle.cm_filter.specs.Filters.{permits}
use Rattle.cm_maker.specs.Sweeping.{Sweeps}
use Rattle.cm_maker.proofs.sweep.round.Given as goal
use Rattle.model_verdict.specs.Sweep.{row_count}

abbrev pub invariant-loop-k : goal.invariant-loop-k
invariant-loop-k l = record {
  count : length l.bounds ≡ length l.fn.bounds;
  swept : (round k : ℕ) → k ≡ (14 * round + l.k) * row_count l.setting.state.now.spaces
      → Sweeps (permits l.setting.filter) l.setting.files.now l.setting.state.now (14 * round * row_count l.setting.state.now.spaces) k
      l.fn.bounds l.bounds;
}
