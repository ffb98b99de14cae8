use Rattle.std.proofs.Common.{◌≡◌, ◌++◌, drop, map}
use Rattle.cm_declared.specs.World.{world_of}
use Rattle.model_text.specs.Arguments.{Id, spaced_texts}
use Rattle.cm_script.proofs.writing.put_all.Given as goal

-- the ids that are left come after what is written
abbrev pub invariant-loop-id : goal.invariant-loop-id
invariant-loop-id l =
    l.text.items ++ spaced_texts (world_of l.w) (map Id (drop l.id-index l.ids)) ≡ l.initial.text.items ++ spaced_texts (world_of l.w) (map Id l.ids)
