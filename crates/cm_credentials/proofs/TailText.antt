-- How long the end of a credential line is.
use Rattle.std.proofs.Common.{◌≡◌, Bool, true, false, codes, length, refl, arith, length-append}
use Rattle.std.specs.Prelude.{if◌then◌else◌}
use Rattle.cm_credentials.specs.Shown.{tail_text}
use Rattle.cm_credentials.specs.declared.shown_parts.Tail.{Tail}
use Rattle.model_text.proofs.HexTexts.{hex_length}
use Rattle.model_text.specs.Hex.{hex_bits, hex_set}

-- one digit, whichever it is
digit_length : (b : Bool) → length (if b then codes "1" else codes "0") ≡ 1
digit_length true = refl
digit_length false = refl

-- seven labels of five bytes, five sets, two digits and one, and the LF
pub tail_length : (tail : Tail) → length (tail_text tail) ≡ 119
unfolding hex_bits hex_set
tail_length tail =
    simp length-append (omega (
      arith,
      hex_length 16 tail.inh,
      hex_length 16 tail.prm,
      hex_length 16 tail.eff,
      hex_length 16 tail.bnd,
      hex_length 16 tail.amb,
      hex_length 2 tail.sec.0,
      digit_length tail.nnp,
    ))
