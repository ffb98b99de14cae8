-- What the audit at the drill's end asks for.
use Rattle.std.proofs.Common.{◌≡◌, ◌<◌, ◌∷◌, [], length, codes, sym, subst}
use Rattle.std.proofs.lemmas.List.Elements.{All-from_recursion}
use Rattle.model_cred.specs.Files.{plain_mount}
use Rattle.model_cred.specs.Process.{State}
use Rattle.model_cred.specs.World.{World}
use Rattle.model_drill.specs.DrillWorld.{drill_world}
use Rattle.model_drill.specs.Laws.{IsDrillState}
use Rattle.model_run.specs.Never.{MountsStand}
use Rattle.model_verdict.proofs.Sweeps.{tree_has_one}

pub mounts_stand : (w : World) (s : State) → w ≡ drill_world → IsDrillState s → MountsStand w s
unfolding drill_world
mounts_stand w s world is =
    subst (λ (v : World). MountsStand v s) (sym world)
    (All-from_recursion (λ m. m.space < length s.spaces) (plain_mount (codes "root") ∷ []) (tree_has_one s.spaces is.keeps.tree, tt))
