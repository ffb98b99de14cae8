use Rattle.std.proofs.Common.{sym, ◌∙◌, ap}
use Rattle.cm_strace_parts.specs.Lists.{fd_before, fd_number}
use Rattle.cm_strace_parts.proofs.Among.{put_next, put_same}
use Rattle.cm_strace_parts.proofs.fd.put_all.Goals as goal
use Rattle.model_strace.specs.Parts.{put}

pub loop-fd-preserved : goal.loop-fd-preserved
loop-fd-preserved c = record {
  items = c.in_ok-put.ensures.items ∙ put_same fd_number c.copy.result c.loop-fd.list.items
      ∙ ap (λ d. put fd_before d c.loop-fd.list.items) c.copy.ensures
      ∙ ap (λ l. put fd_before c.fd-item.result l) c.loop-fd.invariant.items
      ∙ sym (put_next fd_before c.args.news.now c.args.list.now.items c.loop-fd.fd-index c.fd-item.result
      c.loop-fd-test.true c.fd-item.is);
  ascends = c.in_ok-put.ensures.ascends;
}
