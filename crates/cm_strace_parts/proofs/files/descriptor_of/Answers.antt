use Rattle.std.proofs.Common.{sym, ◌∙◌, ap, Some}
use Rattle.std.specs.Prelude.{Option, option_map}
use Rattle.cm_strace_parts.specs.Lists.{Fd, of_process}
use Rattle.cm_strace_parts.proofs.Lists.{found_in}
use Rattle.cm_strace_parts.proofs.files.descriptor_of.Goals as goal

pub returns-in-Some : goal.returns-in-Some
returns-in-Some c =
    ap Some c.descriptor.ensures ∙ ap (λ (r : Option Fd). option_map (of_process c.args.pid) r) c.in-Some.ensures
    ∙ sym (found_in c.args.pid c.args.number c.args.list.now c.requires.processes)

pub returns-in-None : goal.returns-in-None
returns-in-None c =
    ap (λ (r : Option Fd). option_map (of_process c.args.pid) r) c.in-None.ensures
    ∙ sym (found_in c.args.pid c.args.number c.args.list.now c.requires.processes)
