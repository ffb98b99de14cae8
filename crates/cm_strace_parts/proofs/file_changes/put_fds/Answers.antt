use Rattle.std.proofs.Common.{sym, ◌∙◌, ap, List}
use Rattle.cm_strace_parts.specs.Lists.{Fd, fd_before, files_below}
use Rattle.cm_strace_parts.proofs.Among.{put_all_alone}
use Rattle.cm_strace_parts.proofs.ListOrders.{ascends_at, changed_here, inserted_here}
use Rattle.cm_ordered.proofs.Order.{cut_below, found_below}
use Rattle.cm_strace_parts.proofs.Orders.{fd_apart}
use Rattle.cm_strace_parts.proofs.file_changes.put_fds.Goals as goal
use Rattle.model_strace.specs.Parts.{put_all}

pub place-at-requires : goal.place-at-requires
place-at-requires c = rw c.deref.ensures.value c.requires.ordered.processes

pub index_mut-requires : goal.index_mut-requires
index_mut-requires c =
    found_below _ c.deref-2.result.now c.place-at.result _ _ c.is_at.ensures c.if-is_at.true c.deref-2.ensures.len

pub put_all-requires-clause-ascends : goal.put_all-requires-clause-ascends
put_all-requires-clause-ascends c =
    ascends_at c.args.pid c.args.list.now.items c.place-at.result c.index_mut.result.now c.requires.ordered
    (rw c.deref.ensures.value at c.place-at.ensures)
    (sym (rw c.deref-2.ensures.value at c.is_at.ensures) ∙ c.if-is_at.true) c.index_mut.ensures.value

pub insert-requires : goal.insert-requires
insert-requires c =
    cut_below (files_below c.args.pid) c.deref.result.now c.place-at.result _ c.place-at.ensures c.deref.ensures.len

pub returns-in_ok-put_all-clause-items : goal.returns-in_ok-put_all-clause-items
returns-in_ok-put_all-clause-items c =
    changed_here (put_all fd_before c.args.news.value.items) c.args.pid c.args.list.now.items c.place-at.result
    c.index_mut.result.now c.put_all.new.self c.requires.ordered.processes
    (rw c.deref.ensures.value at c.place-at.ensures)
    (sym (rw c.deref-2.ensures.value at c.is_at.ensures) ∙ c.if-is_at.true) c.index_mut.ensures.value
    c.in_ok-put_all.ensures.items

pub returns-in_ok-insert-clause-items : goal.returns-in_ok-insert-clause-items
returns-in_ok-insert-clause-items c =
    c.in_ok-insert.ensures.items
    ∙ inserted_here (put_all fd_before c.args.news.value.items) c.args.pid c.args.list.now.items c.place-at.result
    c.of.result c.requires.ordered.processes
    (rw c.deref.ensures.value at c.place-at.ensures)
    (sym (rw c.deref-2.ensures.value at c.is_at.ensures) ∙ c.if-is_at.false)
    (c.of.ensures ∙ ap (λ (l : List Fd). record { pid = c.args.pid; fds = l })
    (sym (put_all_alone fd_before c.args.news.value.items fd_apart c.requires.up)))
