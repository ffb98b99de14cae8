use Rattle.std.proofs.Common.{ap, not, refl, sym}
use Rattle.cm_idmap.proofs.Refused.{refused_no_map}
use Rattle.cm_values.proofs.maps.map_of.Goals as goal

pub returns-in_default : goal.returns-in_default
returns-in_default c = record {
  map = tt;
  good = tt;
  bad = (
    refl,
    ap not (sym (refused_no_map c.args.list.now c.in-Err.fault (c.in-Err.ensures.refused c.in-Err.fault refl) c.in_default.not-NoMemory)),
  );
}
