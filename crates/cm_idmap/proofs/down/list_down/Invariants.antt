use Rattle.std.proofs.Common.{◌≡◌, ◌++◌, drop}
use Rattle.std.specs.Prelude.{option_map}
use Rattle.cm_idmap.proofs.down.list_down.Given as goal
use Rattle.model_rules.specs.Maps.{list_down}

-- those before, and what the rest is taken down to, are what all are taken down to
abbrev pub invariant-loop-e : goal.invariant-loop-e
invariant-loop-e l = option_map (λ rest. l.all.items ++ rest) (list_down l.map (drop l.e-index l.given)) ≡ list_down l.map l.given
