use Rattle.std.proofs.Common.{◌≡◌, drop}
use Rattle.cm_values.specs.Keys.{keys_of}
use Rattle.model_text.specs.Keys.{are_of_kinds}
use Rattle.toml.specs.View.{table_view}
use Rattle.cm_values.proofs.checks.are_of_kinds.Given as goal

abbrev pub invariant-loop-key : goal.invariant-loop-key
invariant-loop-key l =
    are_of_kinds l.ranged (keys_of (drop l.key-index l.keys)) (table_view l.row) ≡ are_of_kinds l.ranged (keys_of l.keys) (table_view l.row)
