use Rattle.cm_strace_parts.proofs.Slots.{marked, marked_others}
use Rattle.cm_strace_parts.proofs.known.Known.note.Goals as goal

pub returns-clause-noted : goal.returns-clause-noted
returns-clause-noted c =
    rw (c.slot.ensures, c.mark.ensures) (marked c.self.inside.slots.items c.args.pid c.self.invariant)

pub returns-clause-others : goal.returns-clause-others
returns-clause-others c =
    rw (c.slot.ensures, c.mark.ensures, ← c.self.view_is)
    (λ other. marked_others c.self.inside.slots.items c.args.pid other c.self.invariant)
