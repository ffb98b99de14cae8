use Rattle.std.proofs.Common.{◌≡◌, ◌<◌, length}
use Rattle.cm_state.proofs.spaces.Spaces.ancestor.Given as goal
use Rattle.model_cred.specs.Space.{is_at_or_above}

abbrev pub invariant-loop-at : goal.invariant-loop-at
invariant-loop-at l = record {
  stands : l.at.0 < length l.self;
  same : is_at_or_above l.self l.a.0 l.at.0 ≡ is_at_or_above l.self l.a.0 l.fn.s.0;
}

abbrev pub decreases-loop-at : goal.decreases-loop-at
decreases-loop-at l = l.at.0
