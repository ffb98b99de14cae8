use Rattle.std.proofs.Common.{◌≡◌, drop, map}
use Rattle.model_text.specs.NameText.{is_one_of}
use Rattle.cm_world.proofs.mounts.has_mount.Given as goal

abbrev pub invariant-loop-m : goal.invariant-loop-m
invariant-loop-m l = is_one_of (map (λ m. m.name) (drop l.m-index l.mounts)) l.name ≡ is_one_of (map (λ m. m.name) l.mounts) l.name
