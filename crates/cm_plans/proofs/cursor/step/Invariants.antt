use Rattle.std.proofs.Common.{◌≡◌, ◌-◌, length, true}
use Rattle.cm_plans.proofs.cursor.step.Given as goal
use Rattle.cm_plans.specs.Cursors.{all_left}
use Rattle.cm_plans.specs.Ready.{IsSameQuestion}
use Rattle.cm_plans.specs.Turns.{TurnStands}

abbrev pub invariant-loop-run : goal.invariant-loop-run
invariant-loop-run l = record {
  begun : l.at.begun ≡ true;
  left : all_left l.fn.q l.st l.members l.at ≡ all_left l.fn.q l.st l.members l.fn.at;
  stand : TurnStands l.fn.q.spaces.now l.at.turn;
  question : IsSameQuestion l.fn.q l.q;
}

abbrev pub decreases-loop-run : goal.decreases-loop-run
decreases-loop-run l = length l.members - l.at.next
