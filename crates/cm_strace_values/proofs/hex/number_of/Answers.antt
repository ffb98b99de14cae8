use Rattle.std.proofs.Common.{sym, ◌∙◌}
use Rattle.cm_strace_values.proofs.HexDigits.{no_digit}
use Rattle.cm_strace_values.proofs.hex.number_of.Goals as goal

pub returns-in_err-number : goal.returns-in_err-number
returns-in_err-number c =
    let none = sym c.digit_after.ensures ∙ c.in_err-number.was in
    c.from_residual.ensures
    ∙ sym (no_digit c.args.text.now c.loop-byte.number c.loop-byte.byte-index c.loop-byte-test.true none)
    ∙ c.loop-byte.invariant.spells
