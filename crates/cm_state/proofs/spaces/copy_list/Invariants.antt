use Rattle.std.proofs.Common.{◌≡◌, take}
use Rattle.cm_state.proofs.spaces.copy_list.Given as goal

abbrev pub invariant-loop-space : goal.invariant-loop-space
invariant-loop-space l = l.made.items ≡ take l.space-index l.list
