use Rattle.std.proofs.Common.{◌≡◌, drop}
use Rattle.cm_strace_text.proofs.marks.after_mark.Given as goal
use Rattle.model_strace.specs.Marks.{after_mark}

-- what follows the rest of the mark here follows the mark in the text
abbrev pub invariant-loop-byte : goal.invariant-loop-byte
invariant-loop-byte l = after_mark (drop l.byte-index l.mark) l.rest ≡ after_mark l.mark l.fn.text
