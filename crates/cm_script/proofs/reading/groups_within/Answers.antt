use Rattle.std.proofs.Common.{refl}
use Rattle.cm_script.proofs.reading.groups_within.Goals as goal

pub returns-in-SetGroups : goal.returns-in-SetGroups
returns-in-SetGroups c = rw (c.in-SetGroups.is, c.items.ensures, c.number.ensures) refl
