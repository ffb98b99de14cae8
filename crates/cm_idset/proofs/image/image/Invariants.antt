use Rattle.std.proofs.Common.{◌≡◌, ◌++◌, drop}
use Rattle.cm_idset.specs.Image.{all_images}
use Rattle.cm_idset.proofs.image.image.Given as goal

abbrev pub invariant-loop-e : goal.invariant-loop-e
invariant-loop-e l = l.found.items ++ all_images (drop l.e-index l.map) l.list ≡ all_images l.map l.list
