use Rattle.std.proofs.Common.{arith}
use Rattle.cm_strace_parts.proofs.Noted.{changed_noted}
use Rattle.cm_strace_parts.proofs.parts.Parts.move_to.Goals as goal
use Rattle.model_strace.specs.Parts.{moved_task}

pub invariant_of-self-2 : goal.invariant_of-self-2
invariant_of-self-2 c = record {
  counted = c.self.invariant.counted;
  saved = rw c.in_ok-move_to.ensures.saved c.self.invariant.saved;
  noted = rw c.in_ok-move_to.ensures.items (changed_noted (moved_task c.args.pid c.args.space.0) (λ t. grind arith)
      c.self.invariant.noted);
  bare = c.self.invariant.bare;
}
