-- So far: where the drill stands, and how many events were refused.
use Rattle.std.proofs.Common.{◌≡◌}
use Rattle.std.specs.Prelude.{count_by}
use Rattle.cm_drill.proofs.telling.drill.Given as goal
use Rattle.model_drill.specs.Drill.{drill_start, events_from, is_refusal, stand_after}

abbrev pub invariant-loop-made : goal.invariant-loop-made
invariant-loop-made l =
    (l.g ≡ stand_after l._made (drill_start l.n))
    × (l.refused ≡ count_by (λ e. is_refusal e.res) (events_from l._made (drill_start l.n)))
