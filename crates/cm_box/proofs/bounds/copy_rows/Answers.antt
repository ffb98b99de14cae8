use Rattle.std.proofs.Common.{arith, ap, length}
use Rattle.std.proofs.lemmas.List.{length_push}
use Rattle.cm_box.proofs.RowCopies.{one_more}
use Rattle.cm_box.proofs.bounds.copy_rows.Goals as goal

pub loop-row-preserved : goal.loop-row-preserved
loop-row-preserved c =
    let made = c.loop-row.made.items in
    record {
      count = omega (arith, ap length c.in_ok-push.ensures.items, length_push made c.in_ok-copy.copy);
      same = rw c.in_ok-push.ensures.items
          (one_more made c.args.rows.now c.loop-row.row-index c.row-item.result c.in_ok-copy.copy
          c.loop-row.invariant.count c.loop-row-test.true c.row-item.is c.in_ok-copy.ensures c.loop-row.invariant.same);
    }
