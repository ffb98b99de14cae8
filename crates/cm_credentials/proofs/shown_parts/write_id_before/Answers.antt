use Rattle.std.proofs.Common.{decimal, arith, length-append}
use Rattle.cm_credentials.proofs.Decimals.{id_length}
use Rattle.cm_credentials.proofs.shown_parts.write_id_before.Goals as goal

pub returns-clause-few : goal.returns-clause-few
returns-clause-few c =
    rw c.write_decimal_before.ensures (omega (arith, length-append (decimal c.args.id) c.args.text.now, id_length c.args.id (omega arith)))
