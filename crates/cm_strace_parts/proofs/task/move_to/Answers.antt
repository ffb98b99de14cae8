use Rattle.std.proofs.Common.{◌∙◌, ap}
use Rattle.cm_ordered.specs.Order.{others_by}
use Rattle.cm_ordered.specs.Undone.{Tracked}
use Rattle.cm_strace_parts.proofs.Orders.{moved_others}
use Rattle.cm_ordered.proofs.Undoing.{vec_still, vec_saved}
use Rattle.cm_strace_parts.proofs.task.move_to.Goals as goal
use Rattle.model_strace.specs.Parts.{Task}

pub invariant_of-tasks-2 : goal.invariant_of-tasks-2
invariant_of-tasks-2 c =
    vec_still c.args.pid c.tasks.inside.list c.move_in.new.list c.tasks.invariant
    (rw c.deref.ensures.value at c.in_ok-save.ensures.saved) c.move_in.ensures.ascends
    (ap (others_by (λ (t : Task). t.pid) c.args.pid) c.move_in.ensures.items
    ∙ moved_others c.args.pid c.args.space.0 c.tasks.inside.list.items) c.move_in.ensures.capacity

pub returns-clause-saved : goal.returns-clause-saved
returns-clause-saved c =
    vec_saved c.args.pid c.tasks.inside.list c.move_in.new.list c.tasks.invariant
    (rw c.deref.ensures.value at c.in_ok-save.ensures.saved) c.move_in.ensures.ascends
    (ap (others_by (λ (t : Task). t.pid) c.args.pid) c.move_in.ensures.items
    ∙ moved_others c.args.pid c.args.space.0 c.tasks.inside.list.items) ∙ ap (λ (t : Tracked Task). t.saved) c.tasks.view_is
