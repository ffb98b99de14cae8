use Rattle.std.proofs.Common.{refl}
use Rattle.cm_idmap.proofs.Refused.{refused_no_map}
use Rattle.cm_nscalls.proofs.stored.map_from.Goals as goal

pub returns-in_default : goal.returns-in_default
returns-in_default c = record {
  map = tt;
  some = refused_no_map c.args.list.now c.in-Err.fault (c.in-Err.ensures.refused c.in-Err.fault refl) c.in_default.not-NoMemory;
}
