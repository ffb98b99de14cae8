use Rattle.std.proofs.Common.{◌≡◌, drop}
use Rattle.cm_cert.proofs.RowLists.{rows_before}
use Rattle.cm_cert.proofs.rows.rows_shape.Given as goal
use Rattle.model_cert.specs.Row.{rows_shape}
use Rattle.serde_json.specs.View.{items_view}

abbrev pub invariant-loop-item : goal.invariant-loop-item
invariant-loop-item l = record {
  number : l.y ≡ l.item-index;
  read : rows_before l.rows.items (rows_shape l.y (items_view (drop l.item-index l.items)))
      ≡ rows_shape 0 (items_view l.items);
}
