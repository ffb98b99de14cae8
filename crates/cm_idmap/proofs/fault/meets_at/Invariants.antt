use Rattle.std.proofs.Common.{◌≡◌, ℕ, drop}
use Rattle.cm_idmap.proofs.fault.meets_at.Given as goal
use Rattle.model_cred.specs.MapFault.{overlap_with}

abbrev pub invariant-loop-j : goal.invariant-loop-j
invariant-loop-j l = (i : ℕ) → overlap_with i l.e l.j (drop l.j l.list) ≡ overlap_with i l.e l.from (drop l.from l.list)
