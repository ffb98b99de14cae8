use Rattle.std.proofs.Common.{sym, ◌∙◌, ap}
use Rattle.cm_strace_parts.specs.Lists.{files_pid, is_files, descriptors_in}
use Rattle.cm_strace_parts.proofs.ListOrders.{removed_ordered}
use Rattle.cm_strace_parts.proofs.Lists.{without_empty}
use Rattle.cm_ordered.specs.Order.{others_by}
use Rattle.cm_ordered.proofs.Order.{keeps_others}
use Rattle.cm_ordered.proofs.Undoing.{others_left}
use Rattle.cm_strace_parts.proofs.file_changes.drop_empty.Goals as goal

pub returns-then-is_empty_at-clause-items : goal.returns-then-is_empty_at-clause-items
returns-then-is_empty_at-clause-items c =
    ap descriptors_in c.remove.ensures.items ∙ without_empty c.args.list.now.items c.args.at
    (sym (rw c.deref.ensures.value at c.is_empty_at.ensures) ∙ c.if-is_empty_at.true)

pub returns-then-is_empty_at-clause-ordered : goal.returns-then-is_empty_at-clause-ordered
returns-then-is_empty_at-clause-ordered c =
    rw c.remove.ensures.items (removed_ordered c.args.list.now.items c.args.at c.requires)

pub returns-then-is_empty_at-clause-others : goal.returns-then-is_empty_at-clause-others
returns-then-is_empty_at-clause-others c pid stands =
    ap (others_by files_pid pid) (c.remove.ensures.items
    ∙ keeps_others (is_files pid) c.args.list.now.items c.args.at stands)
    ∙ others_left files_pid pid c.args.list.now.items
