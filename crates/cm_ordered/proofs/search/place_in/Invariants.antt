use Rattle.std.proofs.Common.{◌≡◌, ◌<◌, ◌⊎◌}
use Rattle.cm_ordered.specs.Order.{IsBetween, below_by}
use Rattle.cm_ordered.proofs.search.place_in.Given as goal

-- all those so far are lower, or no other one is
abbrev pub invariant-loop-place : goal.invariant-loop-place
invariant-loop-place g l =
    ((l.at ≡ l.place) × IsBetween (below_by g.T.Numbered.number l.number) l.list l.at l.end)
    ⊎ ((l.at < l.place) × IsBetween (below_by g.T.Numbered.number l.number) l.list l.at l.at)
