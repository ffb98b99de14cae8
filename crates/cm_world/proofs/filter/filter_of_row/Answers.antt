use Rattle.std.proofs.Common.{subst}
use Rattle.cm_filter.specs.Filters.{filter_of}
use Rattle.cm_values.specs.Answers.{Gives}
use Rattle.cm_values.specs.Keys.{keys_of}
use Rattle.model_text.specs.FilterText.{excluded_names, filter_keys}
use Rattle.model_text.specs.Keys.{shape_checks}
use Rattle.model_text.specs.Refusal.{Fault}
use Rattle.model_text.specs.Toml.{texts_among}
use Rattle.toml.specs.Data.{Items}
use Rattle.toml.specs.View.{table_view}
use Rattle.cm_world.specs.RowChecks.{filter_excluding, unknown_checks}
use Rattle.cm_world.proofs.Checks.{none_of_keys, one_of_keys}
use Rattle.cm_world.proofs.filter.filter_of_row.Goals as goal

pub returns-in-Some : goal.returns-in-Some
returns-in-Some c =
    one_of_keys (λ keys. shape_checks keys (table_view c.args.row.now)) (keys_of c.filter_keys.result.now) filter_keys
    (unknown_checks (excluded_names (table_view c.args.row.now))) (filter_of (excluded_names (table_view c.args.row.now)))
    c.filter_keys.ensures (Fault c.in-Some.fault) c.in-Some.ensures

pub returns-in-None : goal.returns-in-None
returns-in-None c =
    none_of_keys (λ keys. shape_checks keys (table_view c.args.row.now)) (keys_of c.filter_keys.result.now) filter_keys
    (unknown_checks (excluded_names (table_view c.args.row.now))) (filter_of (excluded_names (table_view c.args.row.now)))
    c.filter_keys.ensures c.excluding.result c.in-None.ensures
    (subst (λ (values : Items). Gives c.excluding.result (filter_excluding (texts_among values))) c.items_at.ensures c.excluding.ensures)
