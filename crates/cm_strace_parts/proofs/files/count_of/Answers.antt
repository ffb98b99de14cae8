use Rattle.std.proofs.Common.{◌∙◌, List, ap, length, sym}
use Rattle.cm_strace_parts.proofs.Counts.{own_count}
use Rattle.cm_strace_parts.proofs.files.count_of.Goals as goal
use Rattle.cm_strace_parts.specs.Lists.{Fd}

pub returns-in-Some : goal.returns-in-Some
returns-in-Some c =
    c.len.ensures ∙ ap (λ (fds : List Fd). length fds) c.in-Some.ensures.some
    ∙ sym (own_count c.args.pid c.args.list.now c.requires.processes)

pub returns-in-None : goal.returns-in-None
returns-in-None c =
    sym (own_count c.args.pid c.args.list.now c.requires.processes ∙ ap (λ (fds : List Fd). length fds) c.in-None.ensures.none)
