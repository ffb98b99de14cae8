use Rattle.std.proofs.Common.{◌≡◌, ◌==◌, ◌∙◌, false, arith}
use Rattle.cm_state.proofs.Climbs.{none_passes}
use Rattle.cm_state.proofs.spaces.Spaces.ancestor.Goals as goal

pub returns-in-None : goal.returns-in-None
returns-in-None c =
    let other : (c.loop-at.at.0 == c.args.a.0) ≡ false = grind (arith, c.if-at-a.false) in
    none_passes (λ m. m == c.args.a.0) c.args.self.now c.loop-at.at.0 c.in-None.ensures.chain other ∙ c.loop-at.invariant.same
