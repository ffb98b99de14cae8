use Rattle.std.proofs.Common.{◌≡◌, ◌≤◌, ◌+◌, ◌-◌, drop, length}
use Rattle.std.specs.List.{prefix_len}
use Rattle.cm_strace_text.proofs.marks.cut_name.Given as goal
use Rattle.model_strace.specs.Marks.{is_word_byte}

-- what stands before this place is of the name
abbrev pub invariant-loop-len : goal.invariant-loop-len
invariant-loop-len l = record {
  run : l.len + prefix_len is_word_byte (drop l.len l.text) ≡ prefix_len is_word_byte l.text;
  within : l.len ≤ length l.text;
}

abbrev pub decreases-loop-len : goal.decreases-loop-len
decreases-loop-len l = length l.text - l.len
