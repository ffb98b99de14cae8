use Rattle.std.proofs.Common.{◌≡◌, drop, map}
use Rattle.cm_plans.proofs.walk.find_single.Given as goal
use Rattle.cm_plans.specs.Choices.{choice_of}
use Rattle.cm_plans.specs.Moves.{setting}
use Rattle.model_plans.specs.Walk.{middle_found}

abbrev pub invariant-loop-single : goal.invariant-loop-single
invariant-loop-single l = record {
  same : l.seat ≡ l.fn.seat;
  left : middle_found (setting l.q) l.fn.seat (map choice_of (drop l.single-index l.singles))
      ≡ middle_found (setting l.q) l.fn.seat (map choice_of l.singles);
}
