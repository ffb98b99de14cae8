use Rattle.std.proofs.Common.{◌≡◌, ◌≤◌, ◌+◌, ◌-◌, [], drop, length}
use Rattle.cm_base.specs.Limits.{greatest_number}
use Rattle.cm_strace.proofs.ending.read_held.Given as goal
use Rattle.cm_declared.specs.World.{world_of}
use Rattle.model_strace.specs.Lines.{at_end}

-- what the later lines give, where the earlier ones told nothing
abbrev pub invariant-loop-l : goal.invariant-loop-l
invariant-loop-l l = record {
  rest : at_end (world_of l.w) (drop l.l-index l.held) l.parts.known
      ≡ at_end (world_of l.w) l.held l.initial.parts.known;
  room : l.parts.known.spaces + (length l.held - l.l-index) ≤ greatest_number;
  fresh : l.events.items ≡ [];
}
