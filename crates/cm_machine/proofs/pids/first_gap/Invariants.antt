use Rattle.std.proofs.Common.{◌≡◌, ℕ, ◌<◌, ◌+◌}
use Rattle.cm_state.specs.Places.{pid_at}
use Rattle.cm_machine.proofs.pids.first_gap.Given as goal

-- the first pids are the numbers from one on
abbrev pub invariant-loop-p : goal.invariant-loop-p
invariant-loop-p l = record {
  count : l.next ≡ l.p-index + 1;
  before : (k : ℕ) → k < l.p-index → pid_at l.list k ≡ k + 1;
}
