use Rattle.std.proofs.Common.{◌+◌, ◌*◌, ◌≤◌, sym, arith}
use Rattle.cm_base.specs.Limits.{greatest_number}
use Rattle.cm_script.proofs.OwnNumbers.{one_digit, digit_read}
use Rattle.cm_script.proofs.own.numbers.take_decimal.Goals as goal

pub returns-then-first-eq0 : goal.returns-then-first-eq0
returns-then-first-eq0 c = one_digit 0 c.in_ok-first.first _ _ (sym c.if-first-eq0.true) c.in_ok-first.ensures.low c.in_ok-first.ensures.digit

pub loop-digit-init : goal.loop-digit-init
loop-digit-init c = record {
  written = one_digit c.from-number.result c.in_ok-first.first _ _ c.from-number.ensures c.in_ok-first.ensures.low c.in_ok-first.ensures.digit;
  some = omega (arith, c.from-number.ensures, c.if-first-eq0.false);
  fits = omega (arith, c.from-number.ensures, c.in_ok-first.ensures.low);
}

pub loop-digit-preserved : goal.loop-digit-preserved
loop-digit-preserved c =
    let fits : 10 * c.loop-digit.number + c.from.result ≤ greatest_number = omega (arith, c.from-in-Some.ensures, c.if-number-from.false) in
    record {
      written =
          digit_read c.loop-digit.number c.from.result c.in-Some.digit _ _ _ c.loop-digit.invariant.some fits c.from.ensures c.in-Some.ensures.low
          c.loop-digit.invariant.written c.in-Some.ensures.digit;
      some = omega (arith, c.loop-digit.invariant.some);
      fits = fits;
    }
