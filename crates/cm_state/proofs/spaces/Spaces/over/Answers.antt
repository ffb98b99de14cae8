use Rattle.std.proofs.Common.{◌∙◌, sym}
use Rattle.cm_state.proofs.Climbs.{none_passes}
use Rattle.cm_state.proofs.spaces.Spaces.over.Goals as goal
use Rattle.model_rules.specs.Power.{gives_power}

pub returns-in-None : goal.returns-in-None
returns-in-None c =
    none_passes (gives_power c.args.self.now c.args.member.0 c.args.eff c.args.euid c.args.c) c.args.self.now c.loop-member.at.0 c.in-None.ensures.chain
    (sym c.gives.ensures ∙ c.if-gives.false)
    ∙ c.loop-member.invariant.same
