use Rattle.std.proofs.Common.{◌≡◌, min, take, true}
use Rattle.std.specs.List.{list_all}
use Rattle.cm_base.specs.Number.{is_digit, value_of}
use Rattle.cm_base.proofs.number.number_of.Given as goal

abbrev pub invariant-loop-byte : goal.invariant-loop-byte
invariant-loop-byte l = record {
  digits : list_all (is_digit l.base) (take l.byte-index l.text) ≡ true;
  value : l.value ≡ min (value_of l.base (take l.byte-index l.text)) 4294967296;
}
