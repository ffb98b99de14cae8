use Rattle.cm_cli.proofs.reading.read_world_text.Goals as goal
use Rattle.cm_declared.specs.World.{world_of}
use Rattle.model_report_laws.proofs.RunLimits.{sizes_within}
use Rattle.model_text.proofs.Keeping.{start_keeps}
use Rattle.model_text.proofs.Starts.{start_processes, start_spaces}

pub returns-in-Ok-clause-keeps : goal.returns-in-Ok-clause-keeps
returns-in-Ok-clause-keeps c = start_keeps _ (world_of c.in-Ok.w) c.in-Ok.ensures.read

pub returns-in-Ok-clause-within : goal.returns-in-Ok-clause-within
returns-in-Ok-clause-within c =
    sizes_within c.in-Ok.w.start (start_processes _ (world_of c.in-Ok.w) c.in-Ok.ensures.read)
    (start_spaces _ (world_of c.in-Ok.w) c.in-Ok.ensures.read)
