-- So far: where the drill stands, and the lines of its events.
use Rattle.std.proofs.Common.{◌≡◌}
use Rattle.cm_drill.proofs.telling.drill_log.Given as goal
use Rattle.model_drill.specs.DrillWorld.{drill_world}
use Rattle.model_drill.specs.Drill.{drill_start, events_from, stand_after}
use Rattle.model_text.specs.Written.{events_text}

abbrev pub invariant-loop-made : goal.invariant-loop-made
invariant-loop-made l =
    (l.g ≡ stand_after l._made (drill_start l.n)) × (l.text.items ≡ events_text drill_world (events_from l._made (drill_start l.n)))
