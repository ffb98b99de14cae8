use Rattle.cm_cert.proofs.Counts.{counted}
use Rattle.cm_cert.proofs.document.read_bounds.Goals as goal
use Rattle.model_cert.proofs.Counts.{value_has_rows}
use Rattle.serde_json.specs.View.{view}

pub returns-clause-count : goal.returns-clause-count
returns-clause-count c =
    counted c.bounds_of.result _ _ c.bounds_of.ensures (value_has_rows c.args.spaces (view c.in_ok-value.value))
