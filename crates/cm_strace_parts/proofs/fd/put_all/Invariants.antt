use Rattle.std.proofs.Common.{◌≡◌, take}
use Rattle.cm_strace_parts.specs.Lists.{fd_before}
use Rattle.cm_ordered.specs.Order.{Ascends}
use Rattle.cm_strace_parts.proofs.fd.put_all.Given as goal
use Rattle.model_strace.specs.Parts.{put_all}

-- the copies so far stand in their places
abbrev pub invariant-loop-fd : goal.invariant-loop-fd
invariant-loop-fd l = record {
  items : l.list.items ≡ put_all fd_before (take l.fd-index l.news) l.initial.list.items;
  ascends : Ascends fd_before l.list.items;
}
