use Rattle.std.proofs.Common.{◌+◌, ◌∙◌, drop, ap, arith}
use Rattle.cm_cert.proofs.RowLists.{rows_before, row_shaped}
use Rattle.cm_cert.proofs.rows.rows_shape.Goals as goal
use Rattle.model_cert.specs.Row.{rows_shape}
use Rattle.serde_json.specs.View.{items_view}

pub loop-item-preserved : goal.loop-item-preserved
loop-item-preserved c =
    let l = c.loop-item in
    let left = items_view (drop (l.item-index + 1) c.args.items.now) in
    let step =
    row_shaped c.args.items.now l.item-index l.y _ c.in_ok-row.row l.rows.items (omega arith) c.item-item.is
    c.in_ok-row.ensures in
    record {
      number = omega arith;
      read = ap (λ done. rows_before done (rows_shape (l.y + 1) left)) c.in_ok-push.ensures.items
          ∙ step ∙ l.invariant.read;
    }
