use Rattle.std.proofs.Common.{subst}
use Rattle.cm_strace.proofs.line.Line.read.Goals as goal
use Rattle.cm_strace.specs.Deeds.{child_of}
use Rattle.cm_strace.specs.Given.{Gave, read_is}
use Rattle.model_strace.specs.After.{preceded}
use Rattle.model_strace.specs.Lines.{given_at}
use Rattle.model_strace.specs.Turn.{Turn}

pub returns-clause-given : goal.returns-clause-given
returns-clause-given c =
    rw (c.child-born.ensures, ← c.self.view_is)
    (subst (λ (t : Turn). Gave c.in_ok-stage.stage c.conclude.new.events.items (read_is
    (child_of c.in_ok-deed.deed) c.conclude.new.parts.known)
    (preceded c.args.events.now.items (given_at c.self.inside.number t)))
    (rw c.deref.ensures.value at c.in_ok-deed.ensures.turn) c.in_ok-stage.ensures.given)
