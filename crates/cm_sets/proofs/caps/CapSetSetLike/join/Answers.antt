use Rattle.cm_sets.proofs.Members.{in_union}
use Rattle.cm_sets.proofs.caps.CapSetSetLike.join.Goals as goal

pub returns : goal.returns
returns c = in_union c.args.self.now.0 c.args.other.now.0 c.union.result c.union.ensures
