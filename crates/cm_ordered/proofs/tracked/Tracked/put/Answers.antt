use Rattle.std.proofs.Common.{◌∙◌, ap, arith}
use Rattle.cm_ordered.specs.Order.{others_by}
use Rattle.cm_ordered.specs.Undone.{Tracked}
use Rattle.cm_ordered.proofs.Puts.{put_longer}
use Rattle.cm_ordered.proofs.Undoing.{others_put, vec_still, vec_saved}
use Rattle.cm_ordered.proofs.tracked.Tracked.put.Goals as goal

pub invariant_of-self-in_err-put : goal.invariant_of-self-in_err-put
invariant_of-self-in_err-put g c =
    vec_still c.number.result c.self.inside.list c.put.new.list c.self.invariant
    (rw c.deref.ensures.value at c.in_ok-save.ensures.saved) c.in_err-put.ensures.ascends
    (ap (others_by g.T.Numbered.number c.number.result) c.in_err-put.ensures.unchanged) c.in_err-put.ensures.capacity

pub invariant_of-self-2 : goal.invariant_of-self-2
invariant_of-self-2 g c =
    vec_still c.number.result c.self.inside.list c.put.new.list c.self.invariant
    (rw c.deref.ensures.value at c.in_ok-save.ensures.saved) c.in_ok-put.ensures.ascends
    (ap (others_by g.T.Numbered.number c.number.result) c.in_ok-put.ensures.items
    ∙ others_put g.T.Numbered.number c.number.result c.args.new c.self.inside.list.items c.number.ensures)
    c.in_ok-put.ensures.capacity

pub returns-in_err-put-clause-saved : goal.returns-in_err-put-clause-saved
returns-in_err-put-clause-saved g c =
    vec_saved c.number.result c.self.inside.list c.put.new.list c.self.invariant
    (rw c.deref.ensures.value at c.in_ok-save.ensures.saved) c.in_err-put.ensures.ascends
    (ap (others_by g.T.Numbered.number c.number.result) c.in_err-put.ensures.unchanged)
    ∙ ap (λ (t : Tracked _). t.saved) c.self.view_is

pub returns-in_err-put-clause-never : goal.returns-in_err-put-clause-never
returns-in_err-put-clause-never g c none =
    rw (← c.self.view_is) (λ room.
    let longer = put_longer g.T.Numbered.number c.args.new c.self.inside.list.items in
    let ok = c.in_err-put.ensures.room (omega (arith, room, longer)) in
    let err = c.in_err-put.was in
    absurd (cc))

pub returns-clause-saved : goal.returns-clause-saved
returns-clause-saved g c =
    vec_saved c.number.result c.self.inside.list c.put.new.list c.self.invariant
    (rw c.deref.ensures.value at c.in_ok-save.ensures.saved) c.in_ok-put.ensures.ascends
    (ap (others_by g.T.Numbered.number c.number.result) c.in_ok-put.ensures.items
    ∙ others_put g.T.Numbered.number c.number.result c.args.new c.self.inside.list.items c.number.ensures)
    ∙ ap (λ (t : Tracked _). t.saved) c.self.view_is
