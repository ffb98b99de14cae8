use Rattle.std.proofs.Common.{sym, ◌∙◌, arith}
use Rattle.cm_ordered.specs.Order.{below_by}
use Rattle.cm_ordered.proofs.Order.{cut_below}
use Rattle.cm_ordered.proofs.Puts.{put_adds, put_instead, put_between, put_ascends}
use Rattle.cm_ordered.proofs.ordered.put.Goals as goal

pub insert-requires : goal.insert-requires
insert-requires g c =
    cut_below (below_by g.T.Numbered.number c.number-number.result) c.deref.result.now c.place-at.result _ c.place-at.ensures
    c.deref.ensures.len

pub returns-then-is_at-clause-items : goal.returns-then-is_at-clause-items
returns-then-is_at-clause-items g c =
    put_instead g.T.Numbered.number c.args.new c.number-number.result c.args.list.now.items c.place-at.result
    c.number-number.ensures (rw c.deref.ensures.value at c.place-at.ensures)
    (sym (rw c.deref-2.ensures.value at c.is_at.ensures) ∙ c.if-is_at.true)

pub returns-then-is_at-clause-ascends : goal.returns-then-is_at-clause-ascends
returns-then-is_at-clause-ascends g c =
    let is = put_instead g.T.Numbered.number c.args.new c.number-number.result c.args.list.now.items
    c.place-at.result c.number-number.ensures (rw c.deref.ensures.value at c.place-at.ensures)
    (sym (rw c.deref-2.ensures.value at c.is_at.ensures) ∙ c.if-is_at.true) in
    rw is (put_ascends g.T.Numbered.number c.args.new c.args.list.now.items c.requires)

pub returns-in_ok-insert-clause-items : goal.returns-in_ok-insert-clause-items
returns-in_ok-insert-clause-items g c =
    c.in_ok-insert.ensures.items
    ∙ put_between g.T.Numbered.number c.args.new c.number-number.result c.args.list.now.items c.place-at.result
    c.number-number.ensures (rw c.deref.ensures.value at c.place-at.ensures)
    (sym (rw c.deref-2.ensures.value at c.is_at.ensures) ∙ c.if-is_at.false)

pub returns-in_ok-insert-clause-ascends : goal.returns-in_ok-insert-clause-ascends
returns-in_ok-insert-clause-ascends g c =
    let is = c.in_ok-insert.ensures.items
    ∙ put_between g.T.Numbered.number c.args.new c.number-number.result c.args.list.now.items c.place-at.result
    c.number-number.ensures (rw c.deref.ensures.value at c.place-at.ensures)
    (sym (rw c.deref-2.ensures.value at c.is_at.ensures) ∙ c.if-is_at.false) in
    rw is (put_ascends g.T.Numbered.number c.args.new c.args.list.now.items c.requires)

pub returns-in_err-insert-clause-room : goal.returns-in_err-insert-clause-room
returns-in_err-insert-clause-room g c fits =
    let adds = put_adds g.T.Numbered.number c.args.new c.number-number.result c.args.list.now.items c.place-at.result
    c.number-number.ensures (rw c.deref.ensures.value at c.place-at.ensures)
    (sym (rw c.deref-2.ensures.value at c.is_at.ensures) ∙ c.if-is_at.false) in
    let size = c.args.list.now.ok.0 in
    let full = c.in_err-insert.ensures.full in
    absurd (omega (arith, fits, adds, size, full))
