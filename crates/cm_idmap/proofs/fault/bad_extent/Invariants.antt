use Rattle.std.proofs.Common.{◌≡◌, drop}
use Rattle.cm_idmap.proofs.fault.bad_extent.Given as goal
use Rattle.model_cred.specs.MapFault.{first_extent_fault}

abbrev pub invariant-loop-i : goal.invariant-loop-i
invariant-loop-i l = first_extent_fault l.i (drop l.i l.list) ≡ first_extent_fault 0 l.list
