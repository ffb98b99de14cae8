use Rattle.std.proofs.Common.{sym}
use Rattle.cm_strace.proofs.Resumed.{resumes_begun}
use Rattle.cm_strace.proofs.body.resume.Goals as goal
use Rattle.cm_declared.specs.World.{world_of}
use Rattle.model_strace.specs.Parts.{kept_of}

pub returns-in-Some-clause-turn : goal.returns-in-Some-clause-turn
returns-in-Some-clause-turn c =
    rw (resumes_begun (world_of c.args.w.now) c.args.pid c.args.name.now c.args.rest.now
    (kept_of c.args.pid c.args.parts.now.known) c.in-Some.text.items c.args.parts.now.known
    (sym (rw c.in-Some.is at c.in_ok-text.ensures))) (rw c.deref.ensures.value at c.whole_resumed.ensures.turn)
