use Rattle.std.proofs.Common.{arith}
use Rattle.cm_filter.proofs.Excluded.{kind_more}
use Rattle.cm_script.proofs.own.lists.named_filter.Goals as goal

pub loop-kind-init : goal.loop-kind-init
loop-kind-init c = rw c.none-filter.ensures (omega arith)

pub loop-kind-preserved : goal.loop-kind-preserved
loop-kind-preserved c = rw c.excluding-filter.ensures (kind_more c.loop-kind.filter c.in-Some.kind c.loop-kind.invariant)
