use Rattle.cm_sound.proofs.AfterLogs.{mounts_at_start}
use Rattle.cm_declared.specs.World.{world_of}
use Rattle.judge_bench.proofs.setup.start.Goals as goal

pub returns-clause-mounts : goal.returns-clause-mounts
returns-clause-mounts c =
    mounts_at_start c.args.text.now (world_of c.in_ok-w.w) c.in_ok-m.m.state c.in_ok-w.ensures.read c.in_ok-m.ensures
