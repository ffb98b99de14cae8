use Rattle.std.proofs.Common.{◌≡◌, ◌∷◌, ◌++◌, ◌∙◌, [], List, Err, Ok, ap, rules, sym}
use Rattle.cm_values.specs.Answers.{cause_of}
use Rattle.cm_values.specs.Keys.{keys_of}
use Rattle.model_cred.specs.Files.{Mount}
use Rattle.model_text.specs.MountText.{mount_checks, mount_declared, mount_keys}
use Rattle.model_text.specs.Refusal.{first_standing}
use Rattle.toml.proofs.Views.{view-Table}
use Rattle.toml.specs.View.{table_view}
use Rattle.cm_world.proofs.Rows.{both_made, both_refused, keys_fit, keys_refused}
use Rattle.cm_world.proofs.mounts.with_row.Goals as goal

pub returns-in_err-check_keys-clause-gives : goal.returns-in_err-check_keys-clause-gives
returns-in_err-check_keys-clause-gives c =
    let row = table_view c.in-Table.row in
    let more : List Mount = c.args.mounts ++ mount_declared c.args.names.now row ∷ [] in
    let same : c.from_residual.result ≡ Err c.in_err-check_keys.field-0.0 = search rules in
    rw (same, c.in-Table.is, view-Table c.in-Table.row) (
    keys_refused row (keys_of c.mount_keys.result.now) mount_keys (mount_checks c.args.names.now c.args.mounts row) more
    c.in_err-check_keys.field-0.0 c.mount_keys.ensures c.in_err-check_keys.ensures.gives)

pub returns-in_err-m-clause-gives : goal.returns-in_err-m-clause-gives
returns-in_err-m-clause-gives c =
    let row = table_view c.in-Table.row in
    let checks = mount_checks c.args.names.now c.args.mounts row in
    let more : List Mount = c.args.mounts ++ mount_declared c.args.names.now row ∷ [] in
    let same : c.from_residual-in_err-m.result ≡ Err c.in_err-m.field-0.0 = search rules in
    rw (same, c.in-Table.is, view-Table c.in-Table.row) (
    keys_fit row (keys_of c.mount_keys.result.now) mount_keys checks more (Err c.in_err-m.field-0.0)
    c.mount_keys.ensures
    c.in_ok-check_keys.ensures.gives
    (both_refused (first_standing checks) (mount_declared c.args.names.now row) more
    (cause_of c.in_err-m.field-0.0) c.in_err-m.ensures))

pub returns-clause-gives : goal.returns-clause-gives
returns-clause-gives c =
    let row = table_view c.in-Table.row in
    let checks = mount_checks c.args.names.now c.args.mounts row in
    let more : List Mount = c.args.mounts ++ mount_declared c.args.names.now row ∷ [] in
    rw (c.in-Table.is, view-Table c.in-Table.row) (
    keys_fit row (keys_of c.mount_keys.result.now) mount_keys checks more (Ok c.in_ok-with.field-0) c.mount_keys.ensures
    c.in_ok-check_keys.ensures.gives
    (both_made (first_standing checks) (mount_declared c.args.names.now row) c.in_ok-m.m more
    c.in_ok-with.field-0 c.in_ok-m.ensures
    (λ same. ap (λ (m : Mount). c.args.mounts ++ m ∷ []) same ∙ sym c.in_ok-with.ensures)))
