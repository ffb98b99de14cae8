use Rattle.std.proofs.Common.{◌≡◌, take, drop}
use Rattle.cm_strace_text.proofs.MarkPlaces.{sides_after}
use Rattle.cm_strace_text.proofs.marks.cut_at.Given as goal
use Rattle.model_strace.specs.Marks.{cut_at}

-- no mark begins before this place
abbrev pub invariant-loop-at : goal.invariant-loop-at
invariant-loop-at l = sides_after (take l.at l.text) (cut_at l.mark (drop l.at l.text)) ≡ cut_at l.mark l.text
