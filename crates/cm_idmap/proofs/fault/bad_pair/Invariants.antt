use Rattle.std.proofs.Common.{◌≡◌, drop}
use Rattle.cm_idmap.proofs.fault.bad_pair.Given as goal
use Rattle.model_cred.specs.MapFault.{first_overlap}

abbrev pub invariant-loop-i : goal.invariant-loop-i
invariant-loop-i l = first_overlap l.i (drop l.i l.list) ≡ first_overlap 0 l.list
