use Rattle.cm_sets.proofs.Members.{in_meet}
use Rattle.cm_sets.proofs.caps.CapSetSetLike.meet.Goals as goal

pub returns : goal.returns
returns c = in_meet c.args.self.now.0 c.args.other.now.0 c.meet.result c.meet.ensures
