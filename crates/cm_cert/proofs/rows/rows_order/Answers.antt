use Rattle.std.proofs.Common.{◌+◌, ◌∙◌, length, ap, sym, arith}
use Rattle.std.specs.Vec.Iter.{into_iter_items}
use Rattle.cm_cert.proofs.RowLists.{rows_before, row_ordered}
use Rattle.cm_cert.proofs.rows.rows_order.Goals as goal
use Rattle.model_cert.specs.Row.{rows_order}

pub loop-row-preserved : goal.loop-row-preserved
loop-row-preserved c =
    let l = c.loop-row in
    let more = into_iter_items c.next.new.self in
    let left = c.in-Some.ensures.steps.0 in
    let step = row_ordered l.y c.in-Some.row c.in_ok-row.row more l.rows.items c.in_ok-row.ensures in
    record {
      few = omega (arith, ap length left, l.invariant.few);
      read = ap (λ done. rows_before done (rows_order (l.y + 1) more)) c.in_ok-push.ensures.items
          ∙ step ∙ ap (λ list. rows_before l.rows.items (rows_order l.y list)) (sym left) ∙ l.invariant.read;
    }
