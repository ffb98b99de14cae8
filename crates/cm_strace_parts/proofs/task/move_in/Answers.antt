use Rattle.std.proofs.Common.{sym}
use Rattle.cm_ordered.proofs.Order.{changes_one, changes_none, map_ascends}
use Rattle.cm_strace_parts.proofs.Orders.{moved_keeps}
use Rattle.cm_strace_parts.proofs.task.move_in.Goals as goal
use Rattle.model_strace.specs.Parts.{Task, is_task, task_before, moved_task}

pub find-requires : goal.find-requires
find-requires c = rw c.deref.ensures.value c.requires

pub returns-in-Some-clause-items : goal.returns-in-Some-clause-items
returns-in-Some-clause-items c =
    changes_one (is_task c.args.pid) (λ (task : Task). record task { space = c.args.space.0 }) c.args.list.now.items
    _ _ _
    (rw c.deref.ensures.value at c.in-Some.ensures.found) c.task.view_is c.index_mut-task.ensures.value

pub returns-in-Some-clause-ascends : goal.returns-in-Some-clause-ascends
returns-in-Some-clause-ascends c =
    let is = changes_one (is_task c.args.pid) (λ (task : Task). record task { space = c.args.space.0 })
    c.args.list.now.items _ _ _
    (rw c.deref.ensures.value at c.in-Some.ensures.found) c.task.view_is c.index_mut-task.ensures.value in
    rw is (map_ascends task_before task_before (moved_task c.args.pid c.args.space.0) c.args.list.now.items
    (moved_keeps c.args.pid c.args.space.0) c.requires)

pub returns-in-None-clause-items : goal.returns-in-None-clause-items
returns-in-None-clause-items c =
    sym (changes_none (is_task c.args.pid) (λ (task : Task). record task { space = c.args.space.0 })
    c.args.list.now.items
    (rw c.deref.ensures.value at c.in-None.ensures.none))
