use Rattle.std.proofs.Common.{◌≡◌, take}
use Rattle.cm_ordered.proofs.tracked.copy_list.Given as goal

abbrev pub invariant-loop-thing : goal.invariant-loop-thing
invariant-loop-thing g l = l.made.items ≡ take l.thing-index l.list
