use Rattle.std.proofs.Common.{◌≡◌, ◌+◌, ◌<◌, ◌^◌, length}
use Rattle.std.specs.Vec.Iter.{into_iter_items}
use Rattle.cm_cert.proofs.RowLists.{rows_before}
use Rattle.cm_cert.proofs.rows.rows_order.Given as goal
use Rattle.model_cert.specs.Row.{rows_order}

abbrev pub invariant-loop-row : goal.invariant-loop-row
invariant-loop-row l = record {
  few : l.y + length (into_iter_items l.row-iterator) < 2 ^ 32;
  read : rows_before l.rows.items (rows_order l.y (into_iter_items l.row-iterator)) ≡ rows_order 0 l.fn.plain.items;
}
