use Rattle.std.proofs.Common.{◌≡◌, ℕ, ◌+◌, drop}
use Rattle.cm_strace_text.proofs.arguments.next_stop.Given as goal
use Rattle.cm_strace_text.specs.Depths.{ends_at, len_to}
use Rattle.cm_strace_text.specs.declared.arguments.End.{End}
use Rattle.model_strace.specs.Written.{Open}

-- the bytes that were passed over change nothing
abbrev pub invariant-loop-at : goal.invariant-loop-at
invariant-loop-at l = (end : End) (depth : ℕ)
    → l.at + len_to (ends_at end) (Open depth) (drop l.at l.text)
    ≡ l.from + len_to (ends_at end) (Open depth) (drop l.from l.text)
