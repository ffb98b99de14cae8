use Rattle.std.proofs.Common.{◌≡◌, ◌<◌, ◌≤◌, ℕ, true, length, get_or}
use Rattle.cm_strace_text.proofs.marks.without_end.Given as goal
use Rattle.model_text.specs.Cut.{is_blank}

-- what stands from here on is blanks
abbrev pub invariant-loop-end : goal.invariant-loop-end
invariant-loop-end l = record {
  within : l.end ≤ length l.text;
  blanks : (k : ℕ) → l.end ≤ k → k < length l.text → is_blank (get_or l.text k 0) ≡ true;
}

abbrev pub decreases-loop-end : goal.decreases-loop-end
decreases-loop-end l = l.end
