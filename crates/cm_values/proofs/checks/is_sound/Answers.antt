use Rattle.std.proofs.Common.{sym, ◌∙◌}
use Rattle.cm_values.specs.Keys.{keys_of}
use Rattle.cm_values.proofs.Ranged.{none_stands}
use Rattle.toml.specs.View.{table_view}
use Rattle.cm_values.proofs.checks.is_sound.Goals as goal

pub returns : goal.returns
returns c =
    λ is. none_stands (keys_of c.args.keys.now) (table_view c.args.row.now) (sym c.has_only_keys.ensures ∙ c.if-not-has_only_keys.false)
    (sym c.has_needed.ensures ∙ c.if-not-has_needed.false) (sym c.are_of_kinds.ensures ∙ is)
