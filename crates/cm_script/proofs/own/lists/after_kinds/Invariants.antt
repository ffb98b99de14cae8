use Rattle.std.proofs.Common.{List, ℕ, drop, filter, map}
use Rattle.cm_filter.specs.Filters.{excludes}
use Rattle.cm_script.specs.Own.{TakesAll}
use Rattle.model_cred.specs.World.{World}
use Rattle.model_text.specs.Arguments.{Kind}
use Rattle.cm_script.proofs.own.lists.after_kinds.Given as goal

-- where the kinds that are left stand before an end, all stand before it
abbrev pub invariant-loop-kind : goal.invariant-loop-kind
invariant-loop-kind l =
    (w : World) (end : List ℕ) → TakesAll w l.rest (map Kind (filter (excludes l.filter) (drop l.kind-index l.kinds))) end
    → TakesAll w l.fn.text (map Kind (filter (excludes l.filter) l.kinds)) end
