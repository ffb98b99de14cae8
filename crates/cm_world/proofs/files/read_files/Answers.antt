use Rattle.std.proofs.Common.{◌≡◌, [], Err, rules}
use Rattle.cm_base.specs.declared.faults.Table.TheVariants as table
use Rattle.cm_base.specs.declared.limited.Limited.TheVariants as limit
use Rattle.model_text.specs.FileText.{file_row}
use Rattle.model_text.specs.Refusal.{read_rows}
use Rattle.toml.specs.View.{items_view}
use Rattle.cm_world.proofs.FilesMore.{refused_on, table_read}
use Rattle.cm_world.specs.Answers.{refusal_of}
use Rattle.cm_world.specs.Tables.{table_with}
use Rattle.cm_world.proofs.files.read_files.Goals as goal

pub returns : goal.returns
returns c =
    table_read c.args.mounts c.in_ok-files.files
    (read_rows table.File limit.Files 0 (file_row c.args.mounts) [] (items_view c.args.rows.now))
    c.into_vec.result.items c.into_vec-2.result.items c.in_ok-table_of.field-0
    c.in_ok-files.ensures.answers c.into_vec.ensures.mounts c.into_vec-2.ensures.rows c.in_ok-table_of.ensures

pub returns-in_err-files : goal.returns-in_err-files
returns-in_err-files c =
    let same : c.from_residual.result ≡ Err c.in_err-files.field-0.0 = search rules in
    rw same (
    refused_on (read_rows table.File limit.Files 0 (file_row c.args.mounts) [] (items_view c.args.rows.now)) (table_with c.args.mounts)
    (refusal_of c.in_err-files.field-0.0) c.in_err-files.ensures.answers)
