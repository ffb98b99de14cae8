use Rattle.std.proofs.Common.{arith}
use Rattle.cm_tokens.proofs.CapTexts.{hex-fits, hex_below}
use Rattle.cm_script.proofs.OwnHex.{hex_read_more}
use Rattle.cm_script.proofs.own.sets.hex_number.Goals as goal

pub overflow_mul-number : goal.overflow_mul-number
overflow_mul-number c = omega (arith, hex-fits c.loop-byte.number 0 c.loop-byte.byte-index c.loop-byte.invariant.below (omega arith) (omega arith))

pub overflow_add-number : goal.overflow_add-number
overflow_add-number c =
    omega (
      arith,
      c.from.ensures,
      hex-fits c.loop-byte.number c.in_ok-digit_value.field-0 c.loop-byte.byte-index c.loop-byte.invariant.below
          c.in_ok-digit_value.ensures.low (omega arith),
    )

pub loop-byte-preserved : goal.loop-byte-preserved
loop-byte-preserved c = record {
  written =
      hex_read_more c.args.digits.now c.loop-byte.byte-index c.loop-byte.number c.from.result c.in_ok-digit_value.field-0 (omega arith)
      c.loop-byte.invariant.written c.in_ok-digit_value.ensures.digit c.from.ensures c.in_ok-digit_value.ensures.low;
  below = hex_below c.loop-byte.number c.from.result c.loop-byte.byte-index c.loop-byte.invariant.below (omega (arith, c.from.ensures, c.in_ok-digit_value.ensures.low));
}
