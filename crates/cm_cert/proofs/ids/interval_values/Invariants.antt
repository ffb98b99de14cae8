use Rattle.std.proofs.Common.{◌≡◌, take, map}
use Rattle.cm_cert.proofs.ids.interval_values.Given as goal
use Rattle.model_cert.specs.Written.{interval_data}
use Rattle.serde_json.specs.View.{view}

abbrev pub invariant-loop-ids : goal.invariant-loop-ids
invariant-loop-ids l = map view l.items.items ≡ map interval_data (take l.ids-index l.list)
