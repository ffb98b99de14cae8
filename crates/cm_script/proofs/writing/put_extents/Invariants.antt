use Rattle.std.proofs.Common.{◌≡◌, ◌++◌, drop, flat_map}
use Rattle.cm_declared.specs.World.{world_of}
use Rattle.model_text.specs.Arguments.{spaced_texts, triple_of}
use Rattle.cm_script.proofs.writing.put_extents.Given as goal

-- the extents that are left come after what is written
abbrev pub invariant-loop-extent : goal.invariant-loop-extent
invariant-loop-extent l =
    l.text.items ++ spaced_texts (world_of l.w) (flat_map triple_of (drop l.extent-index l.list))
    ≡ l.initial.text.items ++ spaced_texts (world_of l.w) (flat_map triple_of l.list)
