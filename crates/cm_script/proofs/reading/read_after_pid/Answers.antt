use Rattle.std.proofs.Common.{arith, sym}
use Rattle.cm_script.proofs.CallNames.{name_long}
use Rattle.cm_script.proofs.reading.read_after_pid.Goals as goal

pub read_after_name-requires : goal.read_after_name-requires
read_after_name-requires c =
    let long = name_long c.in-Some.name.now c.in-Some-from_name.kind (sym c.in-Some-from_name.ensures) in
    omega (arith, long, c.in-Some.ensures.shorter)
