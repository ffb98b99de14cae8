-- It fails for memory alone.
use Rattle.std.proofs.Common.{Err, ap}
use Rattle.cm_drill.proofs.Turning.{only_memory}
use Rattle.cm_drill.proofs.generator.answered.Goals as goal
use Rattle.cm_state.specs.Call.{call_of}

pub no_fault-requires : goal.no_fault-requires
no_fault-requires c =
    only_memory c.args.m.now.state c.args.pid (call_of c.args.call.now) c.in-Err.e c.in-Err.ensures.no_other
    (λ same. c.in-Err.ensures.no_process (ap Err same)) (λ same. c.in-Err.ensures.no_space (ap Err same))
    c.requires.lives c.requires.named
