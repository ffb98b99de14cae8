use Rattle.std.proofs.Common.{refl, arith}
use Rattle.cm_idmap.proofs.Orders.{ascends_by_neighbours}
use Rattle.cm_idmap.proofs.side.ascends_on.Goals as goal

pub returns : goal.returns
returns c = (
  λ _. ascends_by_neighbours c.args.side c.args.list.now (λ k d below. c.loop-i.invariant k d (omega (arith, below))),
  λ _. refl,
)
