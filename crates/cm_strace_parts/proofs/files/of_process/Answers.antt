use Rattle.std.proofs.Common.{sym}
use Rattle.cm_strace_parts.proofs.ListOrders.{fds_at}
use Rattle.cm_strace_parts.proofs.Lists.{none_of}
use Rattle.cm_strace_parts.proofs.files.of_process.Goals as goal

pub returns-in-Some-clause-some : goal.returns-in-Some-clause-some
returns-in-Some-clause-some c = sym (fds_at c.args.pid c.args.list.now _ _ c.in-Some.ensures.found c.index-list-at.is)

pub returns-in-None-clause-none : goal.returns-in-None-clause-none
returns-in-None-clause-none c = none_of c.args.pid c.args.list.now c.in-None.ensures.none
