use Rattle.std.proofs.Common.{◌∙◌, ap}
use Rattle.cm_strace_parts.specs.Lists.{FdList}
use Rattle.cm_ordered.specs.Undone.{Tracked}
use Rattle.cm_ordered.proofs.Undoing.{vec_still, vec_saved}
use Rattle.cm_strace_parts.proofs.file_changes.forget.Goals as goal

pub invariant_of-files-2 : goal.invariant_of-files-2
invariant_of-files-2 c =
    vec_still c.args.pid c.files.inside.list c.forget_in.new.list c.files.invariant
    (rw c.deref.ensures.value at c.in_ok-save.ensures.saved) c.forget_in.ensures.ordered.processes
    c.forget_in.ensures.others c.forget_in.ensures.capacity

pub returns-clause-saved : goal.returns-clause-saved
returns-clause-saved c =
    vec_saved c.args.pid c.files.inside.list c.forget_in.new.list c.files.invariant
    (rw c.deref.ensures.value at c.in_ok-save.ensures.saved) c.forget_in.ensures.ordered.processes
    c.forget_in.ensures.others ∙ ap (λ (t : Tracked FdList). t.saved) c.files.view_is
