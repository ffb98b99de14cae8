use Rattle.std.proofs.Common.{map}
use Rattle.std.specs.String.{string_bytes}
use Rattle.cm_world.proofs.Unknown.{known, unknown}
use Rattle.cm_world.proofs.filter.excluding_named.Goals as goal

pub returns-in-Ok-clause-gives : goal.returns-in-Ok-clause-gives
returns-in-Ok-clause-gives c = known (map string_bytes c.args.names.now) c.in-Ok.filter c.in-Ok.ensures.read

pub returns-in-Err-clause-gives : goal.returns-in-Err-clause-gives
returns-in-Err-clause-gives c = unknown (map string_bytes c.args.names.now) _ c.in-Err.ensures.unknown
