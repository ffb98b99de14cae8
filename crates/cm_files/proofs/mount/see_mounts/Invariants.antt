use Rattle.std.proofs.Common.{ℕ, ◌<◌, get_or}
use Rattle.cm_files.proofs.mount.see_mounts.Given as goal
use Rattle.model_cred.specs.Files.{KeepsMount, Mount}

abbrev pub invariant-loop-m : goal.invariant-loop-m
invariant-loop-m l = (k : ℕ) (d : Mount) → k < l.m-index → KeepsMount (get_or l.mounts k d)
