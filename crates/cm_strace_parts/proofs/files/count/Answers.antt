use Rattle.std.proofs.Common.{sym, ◌∙◌, ap, ◌+◌, length, take, arith}
use Rattle.cm_strace_parts.specs.Lists.{descriptors_in}
use Rattle.cm_strace_parts.proofs.Lists.{count_more}
use Rattle.cm_strace_parts.proofs.files.count.Goals as goal

pub loop-files-preserved : goal.loop-files-preserved
loop-files-preserved c = record {
  sum = ap (λ n. n + c.len.result) c.loop-files.invariant.sum
      ∙ ap (λ n. length (descriptors_in (take c.loop-files.files-index c.args.list.now)) + n) c.len.ensures
      ∙ sym (count_more c.args.list.now c.loop-files.files-index c.files-item.result c.loop-files-test.true
      c.files-item.is);
  few = omega arith;
}
