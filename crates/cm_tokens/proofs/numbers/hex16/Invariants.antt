use Rattle.std.proofs.Common.{◌≡◌, ◌≤◌, length}
use Rattle.model_text.specs.Hex.{hex_set}
use Rattle.cm_tokens.proofs.HexDigits.{digits_upto}
use Rattle.cm_tokens.proofs.numbers.hex16.Given as goal

abbrev pub invariant-loop-at : goal.invariant-loop-at
invariant-loop-at l = record {
  within : l.at ≤ 16;
  long : length l.digits ≡ 16;
  text : digits_upto l.at l.left l.digits ≡ hex_set l.n;
}

abbrev pub decreases-loop-at : goal.decreases-loop-at
decreases-loop-at l = l.at
