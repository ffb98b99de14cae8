use Rattle.std.proofs.Common.{◌≡◌, ◌≤◌, ◌-◌, length}
use Rattle.cm_strace_text.proofs.marks.quote_end.Given as goal
use Rattle.cm_strace_text.specs.Places.{quote_end}

-- the text in quotes that was passed over ends where the rest does
abbrev pub invariant-quoted : goal.invariant-quoted
invariant-quoted l = record {
  same : quote_end l.from l.text ≡ quote_end l.next l.text;
  after : l.from ≤ l.next;
  inside : l.next ≤ length l.text;
}

abbrev pub decreases-quoted : goal.decreases-quoted
decreases-quoted l = length l.text - l.next
