use Rattle.std.proofs.Common.{◌∙◌, ap}
use Rattle.cm_strace_parts.specs.Lists.{FdList}
use Rattle.cm_ordered.specs.Undone.{Tracked}
use Rattle.cm_ordered.proofs.Undoing.{vec_still, vec_saved}
use Rattle.cm_strace_parts.proofs.file_changes.execute.Goals as goal

pub invariant_of-files-2 : goal.invariant_of-files-2
invariant_of-files-2 c =
    vec_still c.args.pid c.files.inside.list c.execute_in.new.list c.files.invariant
    (rw c.deref.ensures.value at c.in_ok-save.ensures.saved) c.execute_in.ensures.ordered.processes
    c.execute_in.ensures.others c.execute_in.ensures.capacity

pub returns-clause-saved : goal.returns-clause-saved
returns-clause-saved c =
    vec_saved c.args.pid c.files.inside.list c.execute_in.new.list c.files.invariant
    (rw c.deref.ensures.value at c.in_ok-save.ensures.saved) c.execute_in.ensures.ordered.processes
    c.execute_in.ensures.others ∙ ap (λ (t : Tracked FdList). t.saved) c.files.view_is
