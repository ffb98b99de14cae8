use Rattle.std.proofs.Common.{sym}
use Rattle.cm_ordered.proofs.Order.{found, not_found}
use Rattle.cm_ordered.proofs.ordered.get.Goals as goal

pub returns-in-Some : goal.returns-in-Some
returns-in-Some g c = sym (found _ _ _ _ c.in-Some.ensures.found c.index-list-at.is)

pub returns-in-None : goal.returns-in-None
returns-in-None g c = sym (not_found _ _ c.in-None.ensures.none)
