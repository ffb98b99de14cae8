use Rattle.std.proofs.Common.{◌≡◌, ℕ, ◌<◌, length}
use Rattle.cm_machine.proofs.family.spread.Given as goal
use Rattle.cm_machine.specs.Marks.{AreMarks}
use Rattle.cm_state.specs.Places.{pid_at}
use Rattle.model_run.specs.Family.{reaches}

-- the marks are right, and what was found of the first process holds of this one
abbrev pub invariant-loop-step : goal.invariant-loop-step
invariant-loop-step l = record {
  within : l.here < length l.state.processes;
  count : length l.marks ≡ length l.state.processes;
  marks : (root : ℕ) → AreMarks l.state root l.initial.marks → l.reached ≡ reaches l.state root (pid_at l.state.processes l.at) → AreMarks l.state root l.marks;
  same : (root : ℕ) → AreMarks l.state root l.initial.marks → l.reached ≡ reaches l.state root (pid_at l.state.processes l.at)
      → l.reached ≡ reaches l.state root (pid_at l.state.processes l.here);
}
