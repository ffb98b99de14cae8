-- The one mount is of the initial space, which stands.
use Rattle.cm_declared.specs.World.{world_of}
use Rattle.cm_drill.proofs.Ending.{mounts_stand}
use Rattle.cm_drill.proofs.telling.verdict_on.Goals as goal

pub audit-requires-clause-mounts : goal.audit-requires-clause-mounts
audit-requires-clause-mounts c = mounts_stand (world_of c.args.w.now) c.args.m.now.state c.requires.world c.requires.state
