use Rattle.std.proofs.Common.{◌≡◌, ◌++◌, drop, filter, map}
use Rattle.cm_declared.specs.World.{world_of}
use Rattle.cm_filter.specs.Filters.{excludes}
use Rattle.model_text.specs.Arguments.{Kind, spaced_texts}
use Rattle.cm_script.proofs.writing.put_kinds.Given as goal

-- the names that are left come after what is written
abbrev pub invariant-loop-kind : goal.invariant-loop-kind
invariant-loop-kind l =
    l.text.items ++ spaced_texts (world_of l.w) (map Kind (filter (excludes l.filter) (drop l.kind-index l.kinds)))
    ≡ l.initial.text.items ++ spaced_texts (world_of l.w) (map Kind (filter (excludes l.filter) l.kinds))
