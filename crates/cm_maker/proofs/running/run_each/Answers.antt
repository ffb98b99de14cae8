use Rattle.cm_maker.proofs.Tries.{visits_more, visits_same}
use Rattle.cm_maker.proofs.running.run_each.Goals as goal
use Rattle.cm_maker.proofs.running.run_each.Goals.{then-branch, else-branch}

pub loop-runner-preserved : goal.loop-runner-preserved
loop-runner-preserved c = elim c.if-branch.branch [
  | then-branch w ↦ rw w.more-is (visits_more c.loop-runner.invariant c.in_ok-run.ensures w.if-branch.true)
  | else-branch w ↦ rw w.more-is (visits_same c.loop-runner.invariant c.in_ok-run.ensures w.if-branch.false)
]
