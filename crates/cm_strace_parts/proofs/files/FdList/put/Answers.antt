use Rattle.std.proofs.Common.{rules}
use Rattle.cm_strace_parts.specs.Lists.{fd_before}
use Rattle.cm_ordered.specs.Order.{Ascends}
use Rattle.cm_strace_parts.proofs.files.FdList.put.Goals as goal

pub put-requires : goal.put-requires
put-requires c = let up : Ascends fd_before c.in-Some.list.now.items = search rules in up

pub put-requires-in-None : goal.put-requires-in-None
put-requires-in-None c = let up : Ascends fd_before c.in_ok-list-in-None.list.items = search rules in up
