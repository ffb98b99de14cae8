use Rattle.cm_sound.proofs.AfterLogs.{mounts_at_start}
use Rattle.cm_sound.proofs.tests.start.Goals as goal
use Rattle.cm_declared.specs.World.{world_of}

pub returns : goal.returns
returns c =
    mounts_at_start c.args.text.now (world_of c.in_ok-w.w) c.in_ok-m.m.state c.in_ok-w.ensures.read c.in_ok-m.ensures
