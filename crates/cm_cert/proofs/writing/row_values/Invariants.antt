use Rattle.std.proofs.Common.{◌≡◌, take, map}
use Rattle.cm_cert.proofs.writing.row_values.Given as goal
use Rattle.model_cert.specs.Written.{row_data}
use Rattle.serde_json.specs.View.{view}

abbrev pub invariant-loop-row : goal.invariant-loop-row
invariant-loop-row l = map view l.items.items ≡ map row_data (take l.row-index l.rows)
