use Rattle.std.proofs.Common.{sym, ◌∙◌, ap}
use Rattle.cm_strace_parts.specs.Lists.{Fd}
use Rattle.cm_ordered.proofs.Among.{none_goes}
use Rattle.cm_strace_parts.proofs.files.FdList.execute.Goals as goal

pub returns-then-not-any_until_exec-clause-items :
    goal.returns-then-not-any_until_exec-clause-items
returns-then-not-any_until_exec-clause-items c =
    let none = sym (rw (c.deref-2.ensures.value, c.deref.ensures) at c.any_until_exec.ensures)
    ∙ c.if-not-any_until_exec.true in
    let goes = none_goes (λ (fd : Fd). fd.until_exec) c.self.inside.fds.value.items none in
    rw (sym c.self.view_is) (ap (λ l. record { pid = c.self.inside.pid; fds = l }) goes)
