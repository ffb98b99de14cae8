use Rattle.std.proofs.Common.{sym, ◌∙◌, arith, not}
use Rattle.cm_strace_parts.specs.Lists.{Fd}
use Rattle.cm_strace_parts.proofs.LeftAt.{left_at, none_left_at}
use Rattle.cm_ordered.proofs.Order.{found_below}
use Rattle.cm_strace_parts.proofs.file_changes.execute_in.Goals as goal
use Rattle.model_strace.specs.Parts.{is_closed_at_exec}

pub place-at-requires : goal.place-at-requires
place-at-requires c = rw c.deref.ensures.value c.requires.processes

pub index_mut-requires : goal.index_mut-requires
index_mut-requires c =
    found_below _ c.deref-2.result.now c.place-at.result _ _ c.is_at.ensures c.if-is_at.true c.deref-2.ensures.len

pub drop_empty-requires : goal.drop_empty-requires
drop_empty-requires c =
    let cut = rw c.deref.ensures.value at c.place-at.ensures in
    let here = sym (rw c.deref-2.ensures.value at c.is_at.ensures) ∙ c.if-is_at.true in
    let left = left_at (λ (fd : Fd). not (fd.until_exec)) (λ d. not (is_closed_at_exec c.args.pid d))
    c.args.pid c.args.list.now.items c.place-at.result c.requires cut here c.index_mut.ensures.value
    c.in_ok-execute.ensures.items (λ fd. grind arith) (λ d h. grind (arith, h)) in
    left.ordered

pub returns-in_ok-execute-clause-items : goal.returns-in_ok-execute-clause-items
returns-in_ok-execute-clause-items c =
    let cut = rw c.deref.ensures.value at c.place-at.ensures in
    let here = sym (rw c.deref-2.ensures.value at c.is_at.ensures) ∙ c.if-is_at.true in
    let left = left_at (λ (fd : Fd). not (fd.until_exec)) (λ d. not (is_closed_at_exec c.args.pid d))
    c.args.pid c.args.list.now.items c.place-at.result c.requires cut here c.index_mut.ensures.value
    c.in_ok-execute.ensures.items (λ fd. grind arith) (λ d h. grind (arith, h)) in
    c.drop_empty.ensures.items ∙ left.items

pub returns-else-is_at-clause-items : goal.returns-else-is_at-clause-items
returns-else-is_at-clause-items c =
    none_left_at (λ d. not (is_closed_at_exec c.args.pid d)) c.args.pid c.args.list.now.items c.place-at.result
    c.requires (rw c.deref.ensures.value at c.place-at.ensures)
    (sym (rw c.deref-2.ensures.value at c.is_at.ensures) ∙ c.if-is_at.false) (λ d h. grind (arith, h))

pub returns-in_ok-execute-clause-others : goal.returns-in_ok-execute-clause-others
returns-in_ok-execute-clause-others c =
    let cut = rw c.deref.ensures.value at c.place-at.ensures in
    let here = sym (rw c.deref-2.ensures.value at c.is_at.ensures) ∙ c.if-is_at.true in
    let left = left_at (λ (fd : Fd). not (fd.until_exec)) (λ d. not (is_closed_at_exec c.args.pid d))
    c.args.pid c.args.list.now.items c.place-at.result c.requires cut here c.index_mut.ensures.value
    c.in_ok-execute.ensures.items (λ fd. grind arith) (λ d h. grind (arith, h)) in
    c.drop_empty.ensures.others c.args.pid left.stands ∙ left.others
