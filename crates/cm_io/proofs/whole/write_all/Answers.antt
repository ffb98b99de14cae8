use Rattle.std.proofs.Common.{rules}
use Rattle.cm_io.proofs.Written.{written_more}
use Rattle.cm_io.proofs.whole.write_all.Goals as goal

pub loop-done-preserved : goal.loop-done-preserved
loop-done-preserved g c = record {
  within = search rules;
  written = written_more _ _ _ _ _ _ c.loop-done.invariant.written c.in_ok-done.ensures.written;
  faults = search rules;
}
