use Rattle.std.proofs.Common.{◌≡◌, ℕ, length}
use Rattle.cm_filter.specs.Filters.{permits}
use Rattle.cm_maker.specs.Sweeping.{IsSweptTo}
use Rattle.cm_maker.proofs.rounds.least_by_rounds.Given as goal
use Rattle.model_box.specs.Bounds.{bounds_hold}
use Rattle.model_verdict.specs.Sweep.{row_count, turns_before}
use Rattle.model_verdict.proofs.Lacking.{lacking}

abbrev pub invariant-loop-setting : goal.invariant-loop-setting
invariant-loop-setting l = record {
  count : length l.bounds ≡ row_count l.st.spaces;
  swept : (round : ℕ) × IsSweptTo (permits l.filter) l.files l.st l.members (turns_before l.st.spaces round) l.bounds;
}

abbrev pub decreases-loop-setting : goal.decreases-loop-setting
decreases-loop-setting l = lacking (row_count l.st.spaces) (bounds_hold l.bounds)
