use Rattle.cm_strace_calls.specs.Told.{told_is}
use Rattle.cm_strace.proofs.Resumed.{resumed_taken}
use Rattle.cm_strace.proofs.body.whole_resumed.Goals as goal

pub returns-clause-turn : goal.returns-clause-turn
returns-clause-turn c =
    resumed_taken c.args.pid c.take.result (told_is c.in_ok-told.told) _ c.take.new.parts.known c.args.parts.now.known
    c.in_ok-told.ensures c.take.ensures.turn
