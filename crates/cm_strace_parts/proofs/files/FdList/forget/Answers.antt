use Rattle.std.proofs.Common.{rules, sym, ap}
use Rattle.cm_strace_parts.specs.Lists.{fd_before, is_fd}
use Rattle.cm_ordered.specs.Order.{Ascends}
use Rattle.cm_ordered.proofs.Among.{none_found_goes, not_mapped}
use Rattle.cm_strace_parts.proofs.files.FdList.forget.Goals as goal

pub get-requires : goal.get-requires
get-requires c = let up : Ascends fd_before c.deref-2.result.now = search rules in up

pub remove-requires : goal.remove-requires
remove-requires c = let up : Ascends fd_before c.in-Some.list.now.items = search rules in up

pub remove-requires-in-None : goal.remove-requires-in-None
remove-requires-in-None c = let up : Ascends fd_before c.in_ok-list-in-None.list.items = search rules in up

pub returns-then-is_none-clause-items : goal.returns-then-is_none-clause-items
returns-then-is_none-clause-items c =
    let none = not_mapped _ _ _ (rw (c.deref-2.ensures.value, c.deref.ensures) at c.get.ensures)
    (c.if-is_none.ensures) in
    let goes = none_found_goes (is_fd c.args.number) c.self.inside.fds.value.items none in
    rw (sym c.self.view_is) (ap (λ l. record { pid = c.self.inside.pid; fds = l }) goes)
