use Rattle.std.proofs.Common.{sym, ◌∙◌, ap, find}
use Rattle.cm_strace_parts.specs.Lists.{is_fd}
use Rattle.cm_strace_parts.proofs.ListOrders.{own_ascends}
use Rattle.cm_strace_parts.proofs.files.fd_of.Goals as goal

pub get-requires : goal.get-requires
get-requires c =
    let is = c.list.ensures ∙ c.in-Some.ensures.some in
    rw is (own_ascends c.args.pid c.args.list.now c.requires.each)

pub returns-in-Some : goal.returns-in-Some
returns-in-Some c = c.get.ensures ∙ ap (find (is_fd c.args.number)) (c.list.ensures ∙ c.in-Some.ensures.some)

pub returns-in-None : goal.returns-in-None
returns-in-None c = sym (ap (find (is_fd c.args.number)) c.in-None.ensures.none)
