use Rattle.std.proofs.Common.{sym, ◌∙◌}
use Rattle.cm_sets.proofs.Members.{common_outside}
use Rattle.cm_sets.proofs.caps.CapSetSetLike.meet_within.Goals as goal

pub returns-clause-no : goal.returns-clause-no
returns-clause-no c = λ is.
    common_outside c.args.self.now.0 c.args.other.now.0 c.meet.result c.args.bound.now.0 c.meet.ensures (sym c.within.ensures ∙ is)
