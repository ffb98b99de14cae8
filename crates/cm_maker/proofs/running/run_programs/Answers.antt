use Rattle.cm_maker.proofs.Tries.{visits_more, visits_same}
use Rattle.cm_maker.proofs.running.run_programs.Goals as goal
use Rattle.cm_maker.proofs.running.run_programs.Goals.{then-branch, else-branch, then-branch-2, else-branch-2}

pub loop-program-preserved : goal.loop-program-preserved
loop-program-preserved c = elim c.if-branch.branch [
  | then-branch w ↦ rw w.more-is (visits_more c.loop-program.invariant c.in_ok-run.ensures w.if-branch.true)
  | else-branch w ↦ rw w.more-is (visits_same c.loop-program.invariant c.in_ok-run.ensures w.if-branch.false)
]

pub loop-preserved : goal.loop-preserved
loop-preserved c =
    let each = c.in_ok-run_each-in-Some.ensures in
    elim c.if-branch-2.branch [
      | then-branch-2 w ↦ rw w.more-is (visits_more c.loop.invariant each w.if-branch-2.true)
      | else-branch-2 w ↦ rw w.more-is (visits_same c.loop.invariant each w.if-branch-2.false)
    ]
