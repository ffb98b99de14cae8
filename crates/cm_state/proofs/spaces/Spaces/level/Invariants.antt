use Rattle.std.proofs.Common.{◌≡◌, ◌+◌, ◌<◌, ◌≤◌, length}
use Rattle.cm_state.proofs.spaces.Spaces.level.Given as goal
use Rattle.model_cred.specs.Space.{chain}

abbrev pub invariant-loop-parent : goal.invariant-loop-parent
invariant-loop-parent l = record {
  stands : l.at.0 < length l.self;
  rest : l.above + length (chain l.self l.at.0) ≡ length (chain l.self l.fn.s.0);
  bound : l.above + l.at.0 ≤ l.fn.s.0;
}

abbrev pub decreases-loop-parent : goal.decreases-loop-parent
decreases-loop-parent l = l.at.0
