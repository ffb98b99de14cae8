use Rattle.std.proofs.Common.{sym, ◌∙◌}
use Rattle.cm_strace.proofs.Released.{none_first}
use Rattle.cm_strace.proofs.waiting.Waiting.take_next.Goals as goal

pub returns-clause-next : goal.returns-clause-next
returns-clause-next c =
    sym (none_first c.args.parts.now.known c.loop-pid.self.left c.loop-pid.self.pids (sym c.first.ensures ∙ c.in_default.is))
    ∙ c.loop-pid.invariant.next
