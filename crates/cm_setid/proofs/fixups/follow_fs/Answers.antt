use Rattle.cm_setid.proofs.FsSets.{less_within, more_within}
use Rattle.cm_setid.proofs.fixups.follow_fs.Goals as goal

pub invariant_of-c : goal.invariant_of-c
invariant_of-c c = (less_within c.c.inside.eff c.c.inside.prm _ _ c.minus-c-inside.ensures c.c.invariant.0, c.c.invariant.1, c.c.invariant.2)

pub invariant_of-c-then-is : goal.invariant_of-c-then-is
invariant_of-c-then-is c = (
  more_within c.c.inside.eff c.c.inside.prm _ _ _ c.union-c-inside.ensures c.meet.ensures c.c.invariant.0,
  c.c.invariant.1,
  c.c.invariant.2,
)
