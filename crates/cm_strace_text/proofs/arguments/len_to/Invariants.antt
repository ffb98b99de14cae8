use Rattle.std.proofs.Common.{◌≡◌, ◌≤◌, ◌+◌, ◌-◌, drop, length}
use Rattle.cm_strace_text.proofs.arguments.len_to.Given as goal
use Rattle.cm_strace_text.specs.Depths.{ends_at, len_to}
use Rattle.model_strace.specs.Written.{Open}

-- the bytes that were passed over change nothing
abbrev pub invariant-stops : goal.invariant-stops
invariant-stops l = record {
  len : l.from + len_to (ends_at l.end) (Open l.depth) (drop l.from l.text) ≡ len_to (ends_at l.end) (Open 0) l.text;
  near : l.depth ≤ l.from;
  inside : l.from ≤ length l.text;
}

abbrev pub decreases-stops : goal.decreases-stops
decreases-stops l = length l.text - l.from
