use Rattle.std.proofs.Common.{◌≡◌, ◌++◌, drop}
use Rattle.cm_idset.specs.Image.{images}
use Rattle.cm_idset.proofs.image.put_images.Given as goal

abbrev pub invariant-loop-ids : goal.invariant-loop-ids
invariant-loop-ids l = l.found.items ++ images l.e (drop l.ids-index l.list) ≡ l.fn.found.items ++ images l.e l.list
