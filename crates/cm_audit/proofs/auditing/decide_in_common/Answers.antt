use Rattle.cm_audit.proofs.auditing.decide_in_common.Goals as goal

pub returns-clause-decided : goal.returns-clause-decided
returns-clause-decided c = rw c.common.ensures at c.decide.ensures.decided
