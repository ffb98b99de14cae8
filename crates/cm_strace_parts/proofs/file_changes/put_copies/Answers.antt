use Rattle.std.proofs.Common.{◌∙◌, ap, sym}
use Rattle.cm_strace_parts.specs.Lists.{FdList, fd_before, fd_number, ListsInOrder}
use Rattle.cm_ordered.specs.Undone.{Tracked}
use Rattle.cm_strace_parts.proofs.Among.{put_all_ascends}
use Rattle.cm_strace_parts.proofs.ListOrders.{if_made, put_may_leave}
use Rattle.cm_strace_parts.proofs.Lists.{put_all_in}
use Rattle.cm_ordered.proofs.Undoing.{vec_still, vec_saved}
use Rattle.model_strace.specs.Parts.{put_all}
use Rattle.cm_strace_parts.proofs.file_changes.put_copies.Goals as goal

pub invariant_of-files-2 : goal.invariant_of-files-2
invariant_of-files-2 c =
    let fs = c.files.inside.list.items in
    let news = c.args.news.value.items in
    let left = put_may_leave _ c.args.pid (put_all fd_before news) fs _ c.put_fds.ensures.items
    c.put_fds.ensures.unchanged (λ fds up. put_all_ascends fd_number news fds up)
    (rw (sym c.files.view_is) at c.requires.ordered) in
    vec_still c.args.pid c.files.inside.list c.put_fds.new.list c.files.invariant
    (rw c.deref.ensures.value at c.in_ok-save.ensures.saved) left.ordered.processes left.others
    c.put_fds.ensures.capacity

pub returns-clause-saved : goal.returns-clause-saved
returns-clause-saved c =
    let fs = c.files.inside.list.items in
    let news = c.args.news.value.items in
    let left = put_may_leave _ c.args.pid (put_all fd_before news) fs _ c.put_fds.ensures.items
    c.put_fds.ensures.unchanged (λ fds up. put_all_ascends fd_number news fds up)
    (rw (sym c.files.view_is) at c.requires.ordered) in
    vec_saved c.args.pid c.files.inside.list c.put_fds.new.list c.files.invariant
    (rw c.deref.ensures.value at c.in_ok-save.ensures.saved) left.ordered.processes left.others
    ∙ ap (λ (t : Tracked FdList). t.saved) c.files.view_is

pub returns-clause-ordered : goal.returns-clause-ordered
returns-clause-ordered c =
    let fs = c.files.inside.list.items in
    let news = c.args.news.value.items in
    let left = put_may_leave _ c.args.pid (put_all fd_before news) fs _ c.put_fds.ensures.items
    c.put_fds.ensures.unchanged (λ fds up. put_all_ascends fd_number news fds up)
    (rw (sym c.files.view_is) at c.requires.ordered) in
    left.ordered

pub returns-clause-items : goal.returns-clause-items
returns-clause-items c =
    let fs = c.files.inside.list.items in
    let order : ListsInOrder fs = rw (sym c.files.view_is) at c.requires.ordered in
    rw (← c.files.view_is) (if_made c.put_fds.result _ _ _ c.put_fds.ensures.items
    (put_all_in c.args.pid c.args.news.value.items fs order.processes))
