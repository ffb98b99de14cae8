use Rattle.std.proofs.Common.{arith}
use Rattle.cm_cert.proofs.document.bounds_of.Goals as goal
use Rattle.model_cert.proofs.Counts.{document_has_rows}
use Rattle.serde_json.specs.View.{view}

pub rows_order-requires : goal.rows_order-requires
rows_order-requires c =
    let plain = c.in_ok-plain in
    omega (arith, document_has_rows c.args.spaces (view c.args.value.now) plain.plain.items plain.ensures)
