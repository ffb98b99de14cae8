use Rattle.std.proofs.Common.{sym, ◌∙◌, ap, List, length, ◌==◌}
use Rattle.cm_strace_parts.specs.Lists.{Fd, FdList, fd_before}
use Rattle.cm_strace_parts.proofs.Among.{put_all_empty}
use Rattle.cm_strace_parts.proofs.ListOrders.{same_files}
use Rattle.cm_strace_parts.proofs.Orders.{fd_apart}
use Rattle.cm_strace_parts.proofs.files.FdList.put_all.Goals as goal

pub returns-then-is_empty-clause-items : goal.returns-then-is_empty-clause-items
returns-then-is_empty-clause-items c =
    let empty = ap (λ (l : List Fd). length l == 0) (sym c.list.ensures) ∙ sym c.is_empty.ensures ∙ c.if-is_empty.true in
    let is = put_all_empty fd_before c.args.news.value.items c.args.self.now.fds fd_apart c.requires.up empty in
    same_files _ _ _ _ (ap (λ (f : FdList). f.pid) c.self.view_is) (sym is)
