use Rattle.std.proofs.Common.{◌≡◌, ℕ, ◌<◌, ◌+◌, false, length, Some}
use Rattle.cm_machine.proofs.Families.{Leads}
use Rattle.cm_machine.proofs.family.look.Given as goal
use Rattle.cm_machine.specs.Marks.{AreMarks}
use Rattle.cm_state.specs.Places.{pid_at}
use Rattle.model_run.specs.Family.{reaches_within}

-- the chain led here, and not by the root
abbrev pub invariant-loop-step : goal.invariant-loop-step
invariant-loop-step l = record {
  within : l.here < length l.state.processes;
  leads : (root : ℕ) → AreMarks l.state root l.marks → Leads l.state root (pid_at l.state.processes l.at) (pid_at l.state.processes l.here) l._step;
  far : (root : ℕ) → AreMarks l.state root l.marks → (n : ℕ) → n + 1 ≡ l._step → reaches_within n l.state root (Some (pid_at l.state.processes l.at)) ≡ false;
}
