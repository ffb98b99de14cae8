use Rattle.std.proofs.Common.{sym, ◌∙◌, ap, not, length, List, ◌==◌}
use Rattle.cm_strace_parts.specs.Lists.{Fd}
use Rattle.cm_strace_parts.proofs.Lists.{any_in}
use Rattle.cm_strace_parts.proofs.files.has_any.Goals as goal

pub returns-in-Some : goal.returns-in-Some
returns-in-Some c =
    ap not c.is_empty.ensures
    ∙ ap (λ (l : List Fd). not (length l == 0)) (c.list.ensures ∙ c.in-Some.ensures.some)
    ∙ sym (any_in c.args.pid c.args.list.now c.requires.processes)

pub returns-in-None : goal.returns-in-None
returns-in-None c =
    sym (any_in c.args.pid c.args.list.now c.requires.processes
    ∙ ap (λ (l : List Fd). not (length l == 0)) c.in-None.ensures.none)
