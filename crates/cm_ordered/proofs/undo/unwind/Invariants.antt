use Rattle.std.proofs.Common.{◌≡◌, length}
use Rattle.std.specs.Prelude.{vec_capacity}
use Rattle.cm_ordered.specs.Order.{Ascends, before_by}
use Rattle.cm_ordered.specs.Undone.{undone, HasRoom}
use Rattle.cm_ordered.proofs.undo.unwind.Given as goal

-- what is left to be put back gives the same list, and there is room for it
abbrev pub invariant-loop-number : goal.invariant-loop-number
invariant-loop-number g l = record {
  items : undone g.T.Numbered.number l.entries.items l.list.items
      ≡ undone g.T.Numbered.number l.initial.entries.items l.initial.list.items;
  ascends : Ascends (before_by g.T.Numbered.number) l.list.items;
  room : HasRoom g.T.Numbered.number (vec_capacity l.list) l.entries.items l.list.items;
}

abbrev pub decreases-loop-number : goal.decreases-loop-number
decreases-loop-number g l = length l.entries.items
