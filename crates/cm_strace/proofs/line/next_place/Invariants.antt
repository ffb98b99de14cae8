use Rattle.std.proofs.Common.{◌≡◌, false}
use Rattle.cm_strace.specs.Taken.{waits_before}
use Rattle.cm_strace.proofs.line.next_place.Given as goal

-- none of the pid's lines that are left stands before the place
abbrev pub invariant-loop-at : goal.invariant-loop-at
invariant-loop-at l = waits_before l.pid l.at l.lines l.taken ≡ false
