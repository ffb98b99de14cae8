use Rattle.std.proofs.Common.{◌≡◌, ◌<◌, ◌^◌, take}
use Rattle.model_text.specs.Hex.{hex}
use Rattle.cm_script.proofs.own.sets.hex_number.Given as goal

-- the digits so far write the number
abbrev pub invariant-loop-byte : goal.invariant-loop-byte
invariant-loop-byte l = record {
  written : take l.byte-index l.digits ≡ hex l.byte-index l.number;
  below : l.number < 16 ^ l.byte-index;
}
