use Rattle.cm_sound.proofs.judging.closed_in_common.Goals as goal

pub returns-clause-none : goal.returns-clause-none
returns-clause-none c = rw c.common.ensures at c.closed.ensures.none

pub returns-clause-first : goal.returns-clause-first
returns-clause-first c = rw c.common.ensures at c.closed.ensures.first
