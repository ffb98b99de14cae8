use Rattle.std.proofs.Common.{◌≡◌, ◌∙◌, sym, true}
use Rattle.cm_strace_parts.specs.Slots.{notes}
use Rattle.cm_strace_parts.proofs.Slots.{emptied, emptied_others}
use Rattle.cm_strace_parts.proofs.known.Known.forget.Goals as goal

pub returns-then-has-clause-gone : goal.returns-then-has-clause-gone
returns-then-has-clause-gone c =
    rw c.slot.ensures (emptied c.self.inside.slots.items c.args.pid c.self.invariant)

pub returns-then-has-clause-others : goal.returns-then-has-clause-others
returns-then-has-clause-others c =
    let noted : notes c.self.inside.slots.items c.args.pid ≡ true =
    rw c.self.view_is (sym c.has.ensures ∙ c.if-has.true) in
    rw (c.slot.ensures, ← c.self.view_is)
    (λ other. emptied_others c.self.inside.slots.items c.args.pid other c.self.invariant noted)
