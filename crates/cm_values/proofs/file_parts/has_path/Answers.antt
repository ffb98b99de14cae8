use Rattle.std.proofs.Common.{ap, ◌∙◌}
use Rattle.std.specs.Prelude.{is_some}
use Rattle.cm_values.proofs.Paths.{path_named}
use Rattle.cm_values.proofs.file_parts.has_path.Goals as goal

pub returns-clause-path : goal.returns-clause-path
returns-clause-path c = c.is_some.ensures ∙ ap is_some c.find.ensures.named ∙ path_named c.args.rows.now c.args.path.now
