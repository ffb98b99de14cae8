use Rattle.std.proofs.Common.{arith}
use Rattle.std.proofs.lemmas.List.{take-append-drop}
use Rattle.cm_script.proofs.OwnHex.{hex_taken}
use Rattle.cm_script.proofs.own.sets.take_set.Goals as goal

pub returns : goal.returns
returns c = record {
  written =
      hex_taken c.args.text.now c.split_at.result.0.now c.split_at.result.1.now c.in_ok-bits.bits (cc (take-append-drop 16 c.args.text.now))
      c.in_ok-bits.ensures;
  set = omega (arith, c.if-bits-gt-ALL_CAPS.false);
}
