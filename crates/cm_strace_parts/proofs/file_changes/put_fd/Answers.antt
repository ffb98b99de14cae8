use Rattle.std.proofs.Common.{sym, ◌∙◌}
use Rattle.cm_ordered.specs.Order.{put_by}
use Rattle.cm_ordered.proofs.Order.{cut_below, found_below}
use Rattle.cm_strace_parts.specs.Lists.{fd_number, files_below}
use Rattle.cm_strace_parts.proofs.ListOrders.{ascends_at, changed_here, inserted_here}
use Rattle.cm_strace_parts.proofs.file_changes.put_fd.Goals as goal

pub place-at-requires : goal.place-at-requires
place-at-requires c = rw c.deref.ensures.value c.requires.processes

pub index_mut-requires : goal.index_mut-requires
index_mut-requires c =
    found_below _ c.deref-2.result.now c.place-at.result _ _ c.is_at.ensures c.if-is_at.true c.deref-2.ensures.len

pub put-requires : goal.put-requires
put-requires c =
    ascends_at c.args.pid c.args.list.now.items c.place-at.result c.index_mut.result.now c.requires
    (rw c.deref.ensures.value at c.place-at.ensures)
    (sym (rw c.deref-2.ensures.value at c.is_at.ensures) ∙ c.if-is_at.true) c.index_mut.ensures.value

pub insert-requires : goal.insert-requires
insert-requires c =
    cut_below (files_below c.args.pid) c.deref.result.now c.place-at.result _ c.place-at.ensures c.deref.ensures.len

pub returns-in_ok-put-clause-items : goal.returns-in_ok-put-clause-items
returns-in_ok-put-clause-items c =
    changed_here (put_by fd_number c.args.new) c.args.pid c.args.list.now.items c.place-at.result
    c.index_mut.result.now c.put.new.self c.requires.processes
    (rw c.deref.ensures.value at c.place-at.ensures)
    (sym (rw c.deref-2.ensures.value at c.is_at.ensures) ∙ c.if-is_at.true) c.index_mut.ensures.value
    c.in_ok-put.ensures.items

pub returns-in_ok-insert-clause-items : goal.returns-in_ok-insert-clause-items
returns-in_ok-insert-clause-items c =
    c.in_ok-insert.ensures.items
    ∙ inserted_here (put_by fd_number c.args.new) c.args.pid c.args.list.now.items c.place-at.result
    c.in_ok-files.files c.requires.processes
    (rw c.deref.ensures.value at c.place-at.ensures)
    (sym (rw c.deref-2.ensures.value at c.is_at.ensures) ∙ c.if-is_at.false) c.in_ok-files.ensures
