use Rattle.std.proofs.Common.{◌∙◌, ap}
use Rattle.cm_ordered.specs.Order.{others_by}
use Rattle.cm_ordered.specs.Undone.{Tracked}
use Rattle.cm_ordered.proofs.Undoing.{others_left, vec_still, vec_saved}
use Rattle.cm_ordered.proofs.tracked.Tracked.remove.Goals as goal

pub invariant_of-self-2 : goal.invariant_of-self-2
invariant_of-self-2 g c =
    let n = g.K.Numbered.number c.args.key in
    vec_still n c.self.inside.list c.remove.new.list c.self.invariant
    (rw c.deref.ensures.value at c.in_ok-save.ensures.saved) c.remove.ensures.ascends
    (ap (others_by g.T.Numbered.number n) c.remove.ensures.items
    ∙ others_left g.T.Numbered.number n c.self.inside.list.items) c.remove.ensures.capacity

pub returns-clause-saved : goal.returns-clause-saved
returns-clause-saved g c =
    let n = g.K.Numbered.number c.args.key in
    vec_saved n c.self.inside.list c.remove.new.list c.self.invariant
    (rw c.deref.ensures.value at c.in_ok-save.ensures.saved) c.remove.ensures.ascends
    (ap (others_by g.T.Numbered.number n) c.remove.ensures.items
    ∙ others_left g.T.Numbered.number n c.self.inside.list.items)
    ∙ ap (λ (t : Tracked _). t.saved) c.self.view_is
