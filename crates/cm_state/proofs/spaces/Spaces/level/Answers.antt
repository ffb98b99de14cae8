use Rattle.cm_state.proofs.Climbs.{level_passed}
use Rattle.cm_state.proofs.spaces.Spaces.level.Goals as goal

pub returns-in-None : goal.returns-in-None
returns-in-None c = level_passed c.args.self.now c.args.s.0 c.loop-parent.at.0 c.loop-parent.above c.in-None.ensures.chain c.loop-parent.invariant.rest
