use Rattle.std.proofs.Common.{◌≡◌, ◌<◌, length}
use Rattle.cm_state.proofs.spaces.Spaces.over.Given as goal
use Rattle.model_rules.specs.Power.{over}

abbrev pub invariant-loop-member : goal.invariant-loop-member
invariant-loop-member l = record {
  stands : l.at.0 < length l.self;
  same : over l.self l.member.0 l.eff l.euid l.c l.at.0 ≡ over l.self l.member.0 l.eff l.euid l.c l.fn.target.0;
}

abbrev pub decreases-loop-member : goal.decreases-loop-member
decreases-loop-member l = l.at.0
