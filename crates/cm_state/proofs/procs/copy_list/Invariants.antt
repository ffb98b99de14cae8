use Rattle.std.proofs.Common.{◌≡◌, take}
use Rattle.cm_state.proofs.procs.copy_list.Given as goal

abbrev pub invariant-loop-p : goal.invariant-loop-p
invariant-loop-p l = l.made.items ≡ take l.p-index l.list
