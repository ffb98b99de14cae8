use Rattle.std.proofs.Common.{◌∙◌, ap}
use Rattle.cm_strace.proofs.tracer.Tracer.new.Goals as goal
use Rattle.cm_declared.specs.World.{world_of}
use Rattle.model_strace.proofs.RestLaws.{begins_with_reading}
use Rattle.model_strace.specs.Rest.{Going, rest, BeginsWithReading}

pub returns-clause-reading : goal.returns-clause-reading
unfolding BeginsWithReading
returns-clause-reading c cut =
    ap (λ t. rest (world_of c.args.w.now) (Going t) cut) c.in_ok-work.ensures ∙ begins_with_reading
    (world_of c.args.w.now) cut
