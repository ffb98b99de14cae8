use Rattle.std.proofs.Common.{◌∙◌, ap, sym}
use Rattle.cm_ordered.specs.Order.{put_by}
use Rattle.cm_ordered.specs.Undone.{Tracked}
use Rattle.cm_ordered.proofs.Puts.{put_ascends}
use Rattle.cm_ordered.proofs.Undoing.{vec_still, vec_saved}
use Rattle.cm_strace_parts.specs.Lists.{FdList, of_process, fd_of, fd_number, descriptors_in, ListsInOrder}
use Rattle.cm_strace_parts.proofs.ListOrders.{if_made, put_may_leave}
use Rattle.cm_strace_parts.proofs.Lists.{put_in}
use Rattle.model_strace.specs.Parts.{Descriptor, descriptor_before, put}
use Rattle.cm_strace_parts.proofs.file_changes.follow.Goals as goal

pub invariant_of-files-2 : goal.invariant_of-files-2
invariant_of-files-2 c =
    let fs = c.files.inside.list.items in
    let left = put_may_leave _ c.new.inside.pid (put_by fd_number c.of.result) fs _ c.put_fd.ensures.items
    c.put_fd.ensures.unchanged (put_ascends fd_number c.of.result)
    (rw (sym c.files.view_is) at c.requires) in
    vec_still c.new.inside.pid c.files.inside.list c.put_fd.new.list c.files.invariant
    (rw c.deref.ensures.value at c.in_ok-save.ensures.saved) left.ordered.processes left.others
    c.put_fd.ensures.capacity

pub returns-clause-saved : goal.returns-clause-saved
returns-clause-saved c =
    let fs = c.files.inside.list.items in
    let left = put_may_leave _ c.new.inside.pid (put_by fd_number c.of.result) fs _ c.put_fd.ensures.items
    c.put_fd.ensures.unchanged (put_ascends fd_number c.of.result)
    (rw (sym c.files.view_is) at c.requires) in
    vec_saved c.new.inside.pid c.files.inside.list c.put_fd.new.list c.files.invariant
    (rw c.deref.ensures.value at c.in_ok-save.ensures.saved) left.ordered.processes left.others
    ∙ ap (λ (t : Tracked FdList). t.saved) c.files.view_is

pub returns-clause-ordered : goal.returns-clause-ordered
returns-clause-ordered c =
    let fs = c.files.inside.list.items in
    let left = put_may_leave _ c.new.inside.pid (put_by fd_number c.of.result) fs _ c.put_fd.ensures.items
    c.put_fd.ensures.unchanged (put_ascends fd_number c.of.result)
    (rw (sym c.files.view_is) at c.requires) in
    left.ordered

pub returns-clause-items : goal.returns-clause-items
returns-clause-items c =
    let fs = c.files.inside.list.items in
    let pid = c.new.inside.pid in
    let order : ListsInOrder fs = rw (sym c.files.view_is) at c.requires in
    rw (← c.files.view_is) (if_made c.put_fd.result _ _ _ c.put_fd.ensures.items
    (put_in pid c.of.result fs order.processes
    ∙ ap (λ d. put descriptor_before d (descriptors_in fs)) (ap (of_process pid) c.of.ensures
    ∙ ap (λ p. of_process p (fd_of c.args.new.now)) (ap (λ (d : Descriptor). d.pid) c.new.view_is))))
