use Rattle.std.proofs.Common.{◌≡◌, ℕ, length, filter, map, take}
use Rattle.cm_machine.proofs.family.collect.Given as goal
use Rattle.cm_machine.specs.Marks.{AreMarks}
use Rattle.model_run.specs.Family.{reaches}

abbrev pub invariant-loop-at : goal.invariant-loop-at
invariant-loop-at l = record {
  count : length l.marks ≡ length l.state.processes;
  marks : (root : ℕ) → AreMarks l.state root l.initial.marks → AreMarks l.state root l.marks;
  pids : (root : ℕ) → AreMarks l.state root l.initial.marks → l.pids.items ≡ filter (reaches l.state root) (take l.at (map (λ p. p.pid) l.state.processes));
}
