use Rattle.std.proofs.Common.{flat_map, length}
use Rattle.cm_script.specs.Own.{TakesAll}
use Rattle.model_cred.specs.World.{World}
use Rattle.model_text.specs.Arguments.{triple_of}
use Rattle.cm_script.proofs.own.lists.own_extents.Given as goal

-- the extents stand before what is left
abbrev pub invariant-loop-inside : goal.invariant-loop-inside
invariant-loop-inside l = (w : World) → TakesAll w l.fn.text (flat_map triple_of l.list.items) l.rest

abbrev pub decreases-loop-inside : goal.decreases-loop-inside
decreases-loop-inside l = length l.rest
