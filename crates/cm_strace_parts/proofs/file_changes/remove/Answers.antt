use Rattle.std.proofs.Common.{◌∙◌, ap}
use Rattle.cm_strace_parts.specs.Lists.{descriptors_in}
use Rattle.cm_strace_parts.proofs.ListOrders.{left_ordered}
use Rattle.cm_strace_parts.proofs.Lists.{others_in}
use Rattle.cm_strace_parts.proofs.file_changes.remove.Goals as goal

pub returns-clause-items : goal.returns-clause-items
returns-clause-items c =
    ap descriptors_in c.in_ok-remove.ensures.items ∙ others_in c.args.pid c.args.files.now.items

pub returns-clause-ordered : goal.returns-clause-ordered
returns-clause-ordered c = rw c.in_ok-remove.ensures.items (left_ordered _ c.args.files.now.items c.requires)
