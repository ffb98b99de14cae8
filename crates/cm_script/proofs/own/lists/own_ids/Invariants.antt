use Rattle.std.proofs.Common.{length, map}
use Rattle.cm_script.specs.Own.{TakesAll}
use Rattle.model_cred.specs.World.{World}
use Rattle.model_text.specs.Arguments.{Id}
use Rattle.cm_script.proofs.own.lists.own_ids.Given as goal

-- the ids stand before what is left
abbrev pub invariant-loop-id : goal.invariant-loop-id
invariant-loop-id l = (w : World) → TakesAll w l.fn.text (map Id l.ids.items) l.rest

abbrev pub decreases-loop-id : goal.decreases-loop-id
decreases-loop-id l = length l.rest
