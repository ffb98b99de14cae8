use Rattle.std.proofs.Common.{◌∙◌}
use Rattle.cm_ordered.specs.Order.{below_by, has_number}
use Rattle.cm_ordered.proofs.Order.{cut_below, not_at}
use Rattle.cm_ordered.proofs.Puts.{put_between, put_ascends}
use Rattle.cm_ordered.proofs.ordered.insert.Goals as goal

pub insert-requires : goal.insert-requires
insert-requires g c =
    cut_below (below_by g.T.Numbered.number c.number.result) c.deref.result.now c.place-at.result _ c.place-at.ensures
    c.deref.ensures.len

pub returns-clause-items : goal.returns-clause-items
returns-clause-items g c =
    let number = g.T.Numbered.number in
    c.in_ok-insert.ensures.items
    ∙ put_between number c.args.new c.number.result c.args.list.now.items c.place-at.result c.number.ensures
    (rw c.deref.ensures.value at c.place-at.ensures)
    (not_at (has_number number c.number.result) c.args.list.now.items c.place-at.result
    (rw (← c.number.ensures) at c.requires.fresh))

pub returns-clause-ascends : goal.returns-clause-ascends
returns-clause-ascends g c =
    let number = g.T.Numbered.number in
    let is = c.in_ok-insert.ensures.items
    ∙ put_between number c.args.new c.number.result c.args.list.now.items c.place-at.result c.number.ensures
    (rw c.deref.ensures.value at c.place-at.ensures)
    (not_at (has_number number c.number.result) c.args.list.now.items c.place-at.result
    (rw (← c.number.ensures) at c.requires.fresh)) in
    rw is (put_ascends number c.args.new c.args.list.now.items c.requires.ascends)
