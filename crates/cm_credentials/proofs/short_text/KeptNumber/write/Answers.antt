use Rattle.std.proofs.Common.{codes, decimal, arith, length-append}
use Rattle.cm_credentials.proofs.Decimals.{number_length}
use Rattle.cm_credentials.proofs.short_text.KeptNumber.write.Goals as goal

pub write_decimal_before-requires : goal.write_decimal_before-requires
write_decimal_before-requires c =
    rw (c.write_before.ensures, c.clear.ensures)
    (omega (arith, length-append (decimal c.args.number) (codes ": "), number_length c.args.number (omega arith)))
