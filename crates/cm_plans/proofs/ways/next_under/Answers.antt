use Rattle.std.proofs.Common.{sym, ◌∙◌}
use Rattle.cm_plans.proofs.Chains.{none_below}
use Rattle.cm_plans.proofs.ways.next_under.Goals as goal

pub returns-in-None-clause-next : goal.returns-in-None-clause-next
returns-in-None-clause-next c =
    sym (sym c.loop-parent.invariant.same
    ∙ none_below c.args.spaces.now c.args.a.0 c.loop-parent.at.0 c.in-None.ensures.chain (sym c.in-None.ensures.parent))
