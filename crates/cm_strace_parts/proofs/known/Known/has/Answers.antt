use Rattle.std.proofs.Common.{sym}
use Rattle.cm_strace_parts.proofs.Slots.{read_at}
use Rattle.cm_strace_parts.proofs.known.Known.has.Goals as goal

pub returns : goal.returns
returns c =
    rw (c.mark.ensures, ← c.self.view_is) (sym (read_at c.self.inside.slots.items c.args.pid c.slot.result
    c.index.result.now c.self.invariant c.slot.ensures c.index.ensures))
