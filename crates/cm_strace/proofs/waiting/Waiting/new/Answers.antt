use Rattle.std.proofs.Common.{refl}
use Rattle.cm_strace.proofs.Taken.{untaken_all}
use Rattle.cm_strace.proofs.waiting.Waiting.new.Goals as goal

pub returns : goal.returns
returns c =
    let flags = c.in_ok-taken.ensures.items_if_clones_equal (λ y is. is) in
    rw (flags, untaken_all c.args.lines.now, c.new.ensures) refl
