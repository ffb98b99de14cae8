use Rattle.std.proofs.Common.{◌<◌}
use Rattle.cm_box.proofs.closedness.closed.Given as goal
use Rattle.cm_box.specs.Closing.{ClosedIn}
use Rattle.cm_box_rows.specs.Rows.{RowsHold}
use Rattle.cm_filter.specs.Filters.{permits}
use Rattle.model_box.specs.Rule.{Rule, rule_number}

abbrev pub invariant-loop-k : goal.invariant-loop-k
invariant-loop-k l = (rule : Rule) → rule_number rule < l.k → ClosedIn (permits l.filter) l.files l.st.spaces (RowsHold l.bounds) rule
