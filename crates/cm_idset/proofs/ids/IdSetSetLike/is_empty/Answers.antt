use Rattle.std.proofs.Common.{sym, ◌∙◌}
use Rattle.cm_idset.proofs.Elements.{some_held, all_ids}
use Rattle.cm_idset.proofs.ids.IdSetSetLike.is_empty.Goals as goal

pub returns-clause-no : goal.returns-clause-no
returns-clause-no c = λ is. rw (← c.intervals.ensures.value) (some_held c.intervals.result.now c.intervals.ensures.canonical (sym c.is_empty.ensures ∙ is))

pub returns-clause-range : goal.returns-clause-range
returns-clause-range c = rw (← c.intervals.ensures.value) (all_ids c.intervals.result.now c.intervals.ensures.canonical)
