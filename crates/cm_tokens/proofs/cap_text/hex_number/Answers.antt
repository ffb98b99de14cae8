use Rattle.std.proofs.Common.{arith}
use Rattle.cm_tokens.proofs.CapTexts.{hex-fits}
use Rattle.cm_tokens.proofs.cap_text.hex_number.Goals as goal

pub overflow_mul-number : goal.overflow_mul-number
overflow_mul-number c = omega (arith, hex-fits c.loop-byte.number 0 c.loop-byte.byte-index c.loop-byte.invariant.0 (omega arith) (omega arith))

pub overflow_add-number : goal.overflow_add-number
overflow_add-number c =
    omega (
      arith,
      c.from.ensures,
      hex-fits c.loop-byte.number c.in_ok-hex_value.field-0 c.loop-byte.byte-index c.loop-byte.invariant.0
          c.in_ok-hex_value.ensures.range (omega arith),
    )
