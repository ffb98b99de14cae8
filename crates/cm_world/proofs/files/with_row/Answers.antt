use Rattle.std.proofs.Common.{◌≡◌, ◌∷◌, ◌++◌, ◌∙◌, [], List, Err, Ok, ap, length, rules, sym}
use Rattle.cm_files.specs.Fault.{first_fault}
use Rattle.cm_values.specs.Answers.{cause_of}
use Rattle.cm_values.specs.Keys.{keys_of}
use Rattle.model_cred.specs.Files.{FileRow}
use Rattle.model_text.specs.FileText.{file_checks, file_declared, file_keys}
use Rattle.model_text.specs.Refusal.{first_standing}
use Rattle.toml.proofs.Views.{view-Table}
use Rattle.toml.specs.View.{table_view}
use Rattle.cm_world.proofs.FilesMore.{none_more}
use Rattle.cm_world.proofs.Rows.{both_made, both_refused, keys_fit, keys_refused}
use Rattle.cm_world.proofs.files.with_row.Goals as goal

pub returns-in_err-check_keys-clause-gives : goal.returns-in_err-check_keys-clause-gives
returns-in_err-check_keys-clause-gives c =
    let row = table_view c.in-Table.row in
    let more : List FileRow = c.args.files ++ file_declared c.args.mounts.now c.args.files row ∷ [] in
    let same : c.from_residual.result ≡ Err c.in_err-check_keys.field-0.0 = search rules in
    rw (same, c.in-Table.is, view-Table c.in-Table.row) (
    keys_refused row (keys_of c.file_keys.result.now) file_keys (file_checks c.args.mounts.now c.args.files row) more
    c.in_err-check_keys.field-0.0 c.file_keys.ensures c.in_err-check_keys.ensures.gives)

pub returns-in_err-made-clause-gives : goal.returns-in_err-made-clause-gives
returns-in_err-made-clause-gives c =
    let row = table_view c.in-Table.row in
    let checks = file_checks c.args.mounts.now c.args.files row in
    let more : List FileRow = c.args.files ++ file_declared c.args.mounts.now c.args.files row ∷ [] in
    let same : c.from_residual-in_err-made.result ≡ Err c.in_err-made.field-0.0 = search rules in
    rw (same, c.in-Table.is, view-Table c.in-Table.row) (
    keys_fit row (keys_of c.file_keys.result.now) file_keys checks more (Err c.in_err-made.field-0.0)
    c.file_keys.ensures
    c.in_ok-check_keys.ensures.gives
    (both_refused (first_standing checks) (file_declared c.args.mounts.now c.args.files row) more
    (cause_of c.in_err-made.field-0.0)
    c.in_err-made.ensures.gives))

pub returns-clause-gives : goal.returns-clause-gives
returns-clause-gives c =
    let row = table_view c.in-Table.row in
    let checks = file_checks c.args.mounts.now c.args.files row in
    let more : List FileRow = c.args.files ++ file_declared c.args.mounts.now c.args.files row ∷ [] in
    rw (c.in-Table.is, view-Table c.in-Table.row) (
    keys_fit row (keys_of c.file_keys.result.now) file_keys checks more (Ok c.in_ok-with.field-0) c.file_keys.ensures
    c.in_ok-check_keys.ensures.gives
    (both_made (first_standing checks) (file_declared c.args.mounts.now c.args.files row) c.in_ok-made.made more
    c.in_ok-with.field-0
    c.in_ok-made.ensures.gives (λ same. ap (λ (f : FileRow). c.args.files ++ f ∷ []) same ∙ sym c.in_ok-with.ensures)))

pub returns-clause-fine : goal.returns-clause-fine
returns-clause-fine c =
    ap (first_fault (length c.args.mounts.now) []) c.in_ok-with.ensures
    ∙ none_more (length c.args.mounts.now) [] c.args.files c.in_ok-made.made c.requires.fine c.in_ok-made.ensures.fits
