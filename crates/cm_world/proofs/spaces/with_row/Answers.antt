use Rattle.std.proofs.Common.{◌≡◌, ◌∷◌, ◌++◌, [], Err, Ok, rules}
use Rattle.cm_values.specs.Answers.{cause_of}
use Rattle.cm_values.specs.Keys.{keys_of}
use Rattle.model_text.specs.Refusal.{first_standing}
use Rattle.model_text.specs.SpaceText.{Declared, name_of, space_checks, space_declared, space_keys}
use Rattle.toml.specs.Data.{Members}
use Rattle.toml.proofs.Views.{view-Table}
use Rattle.toml.specs.View.{table_view}
use Rattle.cm_world.proofs.Rows.{both_made, both_refused, keys_fit, keys_refused}
use Rattle.cm_world.proofs.SpacesMore.{one_more}
use Rattle.cm_world.proofs.spaces.with_row.Goals as goal

-- the spaces with that of a row
abbrev with_that : Declared → Members → Declared
with_that declared row =
    record { names = declared.names ++ name_of row ∷ []; spaces = space_declared declared row ∷ declared.spaces }

pub returns-in_err-check_keys-clause-gives : goal.returns-in_err-check_keys-clause-gives
returns-in_err-check_keys-clause-gives c =
    let row = table_view c.in-Table.row in
    let same : c.from_residual.result ≡ Err c.in_err-check_keys.field-0.0 = search rules in
    rw (same, c.in-Table.is, view-Table c.in-Table.row) (
    keys_refused row (keys_of c.space_keys.result.now) space_keys (space_checks c.args.declared row)
    (with_that c.args.declared row)
    c.in_err-check_keys.field-0.0 c.space_keys.ensures c.in_err-check_keys.ensures.gives)

pub returns-in_err-space-clause-gives : goal.returns-in_err-space-clause-gives
returns-in_err-space-clause-gives c =
    let row = table_view c.in-Table.row in
    let same : c.from_residual-in_err-space.result ≡ Err c.in_err-space.field-0.0 = search rules in
    rw (same, c.in-Table.is, view-Table c.in-Table.row) (
    keys_fit row (keys_of c.space_keys.result.now) space_keys (space_checks c.args.declared row)
    (with_that c.args.declared row)
    (Err c.in_err-space.field-0.0) c.space_keys.ensures c.in_ok-check_keys.ensures.gives
    (both_refused (first_standing (space_checks c.args.declared row)) (space_declared c.args.declared row)
    (with_that c.args.declared row)
    (cause_of c.in_err-space.field-0.0) c.in_err-space.ensures.gives))

pub returns-clause-gives : goal.returns-clause-gives
returns-clause-gives c =
    let row = table_view c.in-Table.row in
    rw (c.in-Table.is, view-Table c.in-Table.row) (
    keys_fit row (keys_of c.space_keys.result.now) space_keys (space_checks c.args.declared row)
    (with_that c.args.declared row)
    (Ok c.in_ok-with.field-0) c.space_keys.ensures c.in_ok-check_keys.ensures.gives
    (both_made (first_standing (space_checks c.args.declared row)) (space_declared c.args.declared row)
    c.in_ok-space.space
    (with_that c.args.declared row) c.in_ok-with.field-0 c.in_ok-space.ensures.gives
    (λ same. one_more c.args.declared c.text_or.result.now (name_of row) c.in_ok-space.space
    (space_declared c.args.declared row)
    c.in_ok-with.field-0 c.text_or.ensures same c.in_ok-with.ensures)))
