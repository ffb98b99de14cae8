use Rattle.std.proofs.Common.{◌≡◌, ◌<◌, ◌∙◌, List, Err, Ok, ap, length, rules, subst, sym}
use Rattle.std.specs.Prelude.{All}
use Rattle.cm_values.specs.Answers.{cause_of}
use Rattle.cm_values.specs.Keys.{keys_of}
use Rattle.model_cred.proofs.Orders.{all_insert}
use Rattle.model_cred.specs.Process.{Process, insert_process}
use Rattle.model_text.specs.ProcessText.{process_checks, process_declared, process_keys}
use Rattle.model_text.specs.Refusal.{first_standing}
use Rattle.toml.proofs.Views.{view-Table}
use Rattle.toml.specs.View.{table_view}
use Rattle.cm_world.proofs.Checks.{passed_of_keys, refused_of_keys}
use Rattle.cm_world.proofs.Rows.{both_made, both_refused}
use Rattle.cm_world.specs.RowChecks.{limited_checks}
use Rattle.cm_world.proofs.processes.with_row.Goals as goal

pub returns-in_err-check_row-clause-gives : goal.returns-in_err-check_row-clause-gives
returns-in_err-check_row-clause-gives c =
    let row = table_view c.in-Table.row in
    let names = c.args.declared.now.names in
    let more : List Process = insert_process (process_declared names row) c.args.procs in
    let same : c.from_residual.result ≡ Err c.in_err-check_row.field-0.0 = search rules in
    rw (same, c.in-Table.is, view-Table c.in-Table.row) (
    refused_of_keys (limited_checks row) (keys_of c.process_keys.result.now) process_keys
    (process_checks names c.args.procs row) more
    c.process_keys.ensures (cause_of c.in_err-check_row.field-0.0) c.in_err-check_row.ensures.gives)

pub returns-in_err-p-clause-gives : goal.returns-in_err-p-clause-gives
returns-in_err-p-clause-gives c =
    let row = table_view c.in-Table.row in
    let names = c.args.declared.now.names in
    let checks = process_checks names c.args.procs row in
    let more : List Process = insert_process (process_declared names row) c.args.procs in
    let same : c.from_residual-in_err-p.result ≡ Err c.in_err-p.field-0.0 = search rules in
    rw (same, c.in-Table.is, view-Table c.in-Table.row) (
    passed_of_keys (limited_checks row) (keys_of c.process_keys.result.now) process_keys checks more
    c.process_keys.ensures
    (Err c.in_err-p.field-0.0) c.in_ok-check_row.ensures.gives
    (both_refused (first_standing checks) (process_declared names row) more
    (cause_of c.in_err-p.field-0.0) c.in_err-p.ensures.gives))

pub returns-clause-gives : goal.returns-clause-gives
returns-clause-gives c =
    let row = table_view c.in-Table.row in
    let names = c.args.declared.now.names in
    let checks = process_checks names c.args.procs row in
    let more : List Process = insert_process (process_declared names row) c.args.procs in
    rw (c.in-Table.is, view-Table c.in-Table.row) (
    passed_of_keys (limited_checks row) (keys_of c.process_keys.result.now) process_keys checks more
    c.process_keys.ensures
    (Ok c.in_ok-with_one.field-0) c.in_ok-check_row.ensures.gives
    (both_made (first_standing checks) (process_declared names row) c.in_ok-p.p more
    c.in_ok-with_one.field-0 c.in_ok-p.ensures.gives
    (λ same. ap (λ p. insert_process p c.args.procs) same ∙ sym c.in_ok-with_one.ensures.placed)))

pub returns-clause-stands : goal.returns-clause-stands
returns-clause-stands c =
    let P : Process → Type 0 = λ p. p.space < length c.args.declared.now.spaces in
    subst (λ (made : List Process). All P made) (sym c.in_ok-with_one.ensures.placed)
    (all_insert P c.in_ok-p.p c.args.procs c.in_ok-p.ensures.stands c.requires.stands)
