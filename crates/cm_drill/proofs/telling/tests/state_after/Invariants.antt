-- So far: where the drill stands.
use Rattle.std.proofs.Common.{◌≡◌}
use Rattle.cm_drill.proofs.telling.tests.state_after.Given as goal
use Rattle.model_drill.specs.Drill.{drill_start, stand_after}

abbrev pub invariant-loop-made : goal.invariant-loop-made
invariant-loop-made l = l.g ≡ stand_after l._made (drill_start l.n)
