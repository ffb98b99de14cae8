use Rattle.cm_state.proofs.IdSets.{ascends_there}
use Rattle.cm_state.proofs.groups.Groups.see.Goals as goal

pub returns : goal.returns
returns c = rw (← c.self.view_is) (ascends_there c.self.inside.items.items c.self.invariant)
