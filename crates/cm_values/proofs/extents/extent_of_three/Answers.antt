use Rattle.std.proofs.Common.{sym}
use Rattle.cm_values.proofs.Members.{extent_of-not_three}
use Rattle.cm_values.proofs.extents.extent_of_three.Goals as goal

pub returns-then-numbers-ne3 : goal.returns-then-numbers-ne3
returns-then-numbers-ne3 c = sym (extent_of-not_three c.args.numbers.now c.if-numbers-ne3.true)
