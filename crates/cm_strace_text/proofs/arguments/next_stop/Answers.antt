use Rattle.std.proofs.Common.{◌∙◌, refl}
use Rattle.cm_strace_text.proofs.Stops.{calm_passes}
use Rattle.cm_strace_text.proofs.arguments.next_stop.Goals as goal

pub loop-at-preserved : goal.loop-at-preserved
loop-at-preserved c = λ end depth.
    calm_passes end depth c.args.text.now c.loop-at.at c.loop-at-test.true (c.if-not-is_calm.ensures refl)
    ∙ c.loop-at.invariant end depth
