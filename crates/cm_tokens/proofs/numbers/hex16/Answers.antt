use Rattle.std.proofs.Common.{◌≡◌, refl, sym, ◌∙◌, ap, arith}
use Rattle.std.proofs.Math.ListN.{length-set}
use Rattle.cm_tokens.proofs.HexDigits.{digits_upto, digits_upto-start, digits_upto-down, digits_upto-end}
use Rattle.cm_tokens.proofs.numbers.hex16.Goals as goal

pub loop-at-init : goal.loop-at-init
loop-at-init c = record { within = omega arith; long = refl; text = digits_upto-start _ _ refl }

pub loop-at-preserved : goal.loop-at-preserved
loop-at-preserved c = record {
  within = omega (arith, c.loop-at.invariant.within);
  long = length-set _ _ _ ∙ c.loop-at.invariant.long;
  text = rw c.digit.ensures (digits_upto-down c.loop-at.at c.loop-at.left c.loop-at.digits c.loop-at-test.true
      (omega (arith, c.loop-at.invariant.within, c.loop-at.invariant.long)) ∙ c.loop-at.invariant.text);
}

pub returns : goal.returns
returns c =
    let done : c.loop-at.at ≡ 0 = omega arith in
    sym (digits_upto-end c.loop-at.left c.loop-at.digits)
    ∙ ap (λ k. digits_upto k c.loop-at.left c.loop-at.digits) (sym done)
    ∙ c.loop-at.invariant.text
