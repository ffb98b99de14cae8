use Rattle.std.proofs.Common.{◌≡◌, drop}
use Rattle.std.specs.List.{list_all}
use Rattle.cm_values.specs.Keys.{keys_of}
use Rattle.model_text.specs.Keys.{has_as_needed}
use Rattle.toml.specs.View.{table_view}
use Rattle.cm_values.proofs.checks.has_needed.Given as goal

abbrev pub invariant-loop-key : goal.invariant-loop-key
invariant-loop-key l =
    list_all (has_as_needed (table_view l.row)) (keys_of (drop l.key-index l.keys)) ≡ list_all (has_as_needed (table_view l.row)) (keys_of l.keys)
