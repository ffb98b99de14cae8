use Rattle.std.proofs.Common.{◌≡◌, take}
use Rattle.cm_strace_parts.proofs.fd.copy_list.Given as goal

abbrev pub invariant-loop-fd : goal.invariant-loop-fd
invariant-loop-fd l = l.made.items ≡ take l.fd-index l.list
