use Rattle.std.proofs.Common.{◌≡◌, ℕ, ◌+◌, ◌≤◌, length}
use Rattle.cm_strace.specs.Births.{work_of}
use Rattle.cm_strace.proofs.births.read_waiting.Given as goal
use Rattle.cm_declared.specs.World.{world_of}
use Rattle.model_strace.specs.After.{preceded}
use Rattle.model_strace.specs.Rest.{released}

-- the events so far, and then those of the lines that are left
abbrev pub invariant-loop-l : goal.invariant-loop-l
invariant-loop-l l = record {
  released : (count : ℕ) → preceded l.events.items (released (world_of l.w) (length l.waiting.left) l.waiting.pids
      (work_of count l.waiting l.parts))
      ≡ preceded l.initial.events.items (released (world_of l.w) (length l.initial.waiting.left)
      l.initial.waiting.pids (work_of count l.initial.waiting l.initial.parts));
  saved : l.parts.saved ≡ l.initial.parts.saved;
  all : l.waiting.all ≡ l.initial.waiting.all;
  uses : l.parts.known.spaces + length l.waiting.left ≤ l.initial.parts.known.spaces + length l.initial.waiting.left;
}

abbrev pub decreases-loop-l : goal.decreases-loop-l
decreases-loop-l l = length l.waiting.left
