use Rattle.std.proofs.Common.{sym, ◌∙◌, arith, not}
use Rattle.cm_strace_parts.specs.Lists.{Fd, is_fd}
use Rattle.cm_strace_parts.proofs.LeftAt.{left_at, none_left_at}
use Rattle.cm_strace_parts.proofs.ListOrders.{ascends_at}
use Rattle.cm_ordered.proofs.Order.{found_below}
use Rattle.cm_strace_parts.proofs.file_changes.forget_in.Goals as goal
use Rattle.model_strace.specs.Parts.{is_descriptor}

pub place-at-requires : goal.place-at-requires
place-at-requires c = rw c.deref.ensures.value c.requires.processes

pub index_mut-requires : goal.index_mut-requires
index_mut-requires c =
    found_below _ c.deref-2.result.now c.place-at.result _ _ c.is_at.ensures c.if-is_at.true c.deref-2.ensures.len

pub forget-requires : goal.forget-requires
forget-requires c =
    ascends_at c.args.pid c.args.list.now.items c.place-at.result c.index_mut.result.now c.requires
    (rw c.deref.ensures.value at c.place-at.ensures)
    (sym (rw c.deref-2.ensures.value at c.is_at.ensures) ∙ c.if-is_at.true) c.index_mut.ensures.value

pub drop_empty-requires : goal.drop_empty-requires
drop_empty-requires c =
    let cut = rw c.deref.ensures.value at c.place-at.ensures in
    let here = sym (rw c.deref-2.ensures.value at c.is_at.ensures) ∙ c.if-is_at.true in
    let left = left_at (λ (fd : Fd). not (is_fd c.args.number fd)) (λ d. not (is_descriptor c.args.pid c.args.number d))
    c.args.pid c.args.list.now.items c.place-at.result c.requires cut here c.index_mut.ensures.value
    c.in_ok-forget.ensures.items (λ fd. grind arith) (λ d h. grind (arith, h)) in
    left.ordered

pub returns-in_ok-forget-clause-items : goal.returns-in_ok-forget-clause-items
returns-in_ok-forget-clause-items c =
    let cut = rw c.deref.ensures.value at c.place-at.ensures in
    let here = sym (rw c.deref-2.ensures.value at c.is_at.ensures) ∙ c.if-is_at.true in
    let left = left_at (λ (fd : Fd). not (is_fd c.args.number fd)) (λ d. not (is_descriptor c.args.pid c.args.number d))
    c.args.pid c.args.list.now.items c.place-at.result c.requires cut here c.index_mut.ensures.value
    c.in_ok-forget.ensures.items (λ fd. grind arith) (λ d h. grind (arith, h)) in
    c.drop_empty.ensures.items ∙ left.items

pub returns-else-is_at-clause-items : goal.returns-else-is_at-clause-items
returns-else-is_at-clause-items c =
    none_left_at (λ d. not (is_descriptor c.args.pid c.args.number d)) c.args.pid c.args.list.now.items c.place-at.result
    c.requires (rw c.deref.ensures.value at c.place-at.ensures)
    (sym (rw c.deref-2.ensures.value at c.is_at.ensures) ∙ c.if-is_at.false) (λ d h. grind (arith, h))

pub returns-in_ok-forget-clause-others : goal.returns-in_ok-forget-clause-others
returns-in_ok-forget-clause-others c =
    let cut = rw c.deref.ensures.value at c.place-at.ensures in
    let here = sym (rw c.deref-2.ensures.value at c.is_at.ensures) ∙ c.if-is_at.true in
    let left = left_at (λ (fd : Fd). not (is_fd c.args.number fd)) (λ d. not (is_descriptor c.args.pid c.args.number d))
    c.args.pid c.args.list.now.items c.place-at.result c.requires cut here c.index_mut.ensures.value
    c.in_ok-forget.ensures.items (λ fd. grind arith) (λ d h. grind (arith, h)) in
    c.drop_empty.ensures.others c.args.pid left.stands ∙ left.others
