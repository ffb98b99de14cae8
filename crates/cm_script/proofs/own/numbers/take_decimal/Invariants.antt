use Rattle.std.proofs.Common.{◌≡◌, ◌<◌, ◌≤◌, ◌++◌, length}
use Rattle.std.specs.Prelude.{decimal}
use Rattle.cm_base.specs.Limits.{greatest_number}
use Rattle.cm_script.proofs.own.numbers.take_decimal.Given as goal

-- the number is written before what is left
abbrev pub invariant-loop-digit : goal.invariant-loop-digit
invariant-loop-digit l = record {
  written : l.fn.text ≡ decimal l.number ++ l.rest;
  some : 0 < l.number;
  fits : l.number ≤ greatest_number;
}

abbrev pub decreases-loop-digit : goal.decreases-loop-digit
decreases-loop-digit l = length l.rest
