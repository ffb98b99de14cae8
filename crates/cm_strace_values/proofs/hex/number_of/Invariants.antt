use Rattle.std.proofs.Common.{◌≡◌, ◌≤◌, drop}
use Rattle.cm_base.specs.Limits.{greatest_number}
use Rattle.cm_strace_values.proofs.hex.number_of.Given as goal
use Rattle.cm_strace_values.specs.Hex.{of_32_bits}
use Rattle.model_text.specs.CapText.{hex_after}

abbrev pub invariant-loop-byte : goal.invariant-loop-byte
invariant-loop-byte l = record {
  spells : of_32_bits (hex_after l.number (drop l.byte-index l.text)) ≡ of_32_bits (hex_after 0 l.text);
  short : l.number ≤ greatest_number;
}
