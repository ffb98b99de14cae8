use Rattle.cm_idset.proofs.Sizes.{size_counts}
use Rattle.cm_idset.proofs.ids.IdSet.size.Goals as goal

pub returns-clause-members : goal.returns-clause-members
returns-clause-members c = rw (← c.intervals.ensures.value) (size_counts c.intervals.result.now c.count.result c.intervals.ensures.canonical c.count.ensures)
