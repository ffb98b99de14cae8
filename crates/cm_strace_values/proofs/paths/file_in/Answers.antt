use Rattle.std.proofs.Common.{sym}
use Rattle.cm_strace_values.proofs.PathNames.{deep_is_none}
use Rattle.cm_strace_values.proofs.paths.file_in.Goals as goal

pub returns-in-Some : goal.returns-in-Some
returns-in-Some c =
    let (name, names) = c.in-Some.field-0 in
    rw c.in-Some.ensures.cut (sym (deep_is_none c.args.folder.now name.now names.now))
