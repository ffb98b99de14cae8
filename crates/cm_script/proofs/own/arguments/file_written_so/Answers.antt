use Rattle.std.proofs.Common.{Some, sym, ap, ◌∙◌}
use Rattle.cm_base.specs.declared.res.FileRef.{FileRef}
use Rattle.cm_script.proofs.OwnWords.{row_written_so}
use Rattle.cm_script.proofs.own.arguments.file_written_so.Goals as goal

pub returns-in-Some-Row-clause-written : goal.returns-in-Some-Row-clause-written
returns-in-Some-Row-clause-written c =
    row_written_so c.args.files.now c.args.word.now c.in-Some-Row.n
    (sym c.read_file.ensures ∙ c.in-Some-Row.is ∙ ap (λ (file : FileRef). Some file) c.in-Some-Row.field-0-is)
