use Rattle.std.proofs.Common.{List, ap, ◌∙◌}
use Rattle.std.specs.Prelude.{bytes_eq, find}
use Rattle.cm_base.proofs.Lengths.{find_of_length}
use Rattle.cm_base.specs.Names.{errno_name, errnos}
use Rattle.cm_base.specs.declared.errno.Errno.{Errno}
use Rattle.cm_base.proofs.errno.Errno.from_name.Goals as goal

pub returns : goal.returns
returns c =
    c.named.ensures
    ∙ ap (λ (es : List Errno). find (λ e. bytes_eq (errno_name e) c.args.name.now) es) c.of_length.ensures
    ∙ find_of_length errno_name c.args.name.now errnos
