use Rattle.cm_ordered.proofs.Undoing.{vec_grown}
use Rattle.cm_ordered.proofs.tracked.Tracked.reserve_one.Goals as goal

pub invariant_of-self-2 : goal.invariant_of-self-2
invariant_of-self-2 g c =
    vec_grown g.T.Numbered.number c.self.inside.list c.reserve.new.self c.self.inside.undo c.self.invariant
    c.reserve.ensures.items c.reserve.ensures.capacity
