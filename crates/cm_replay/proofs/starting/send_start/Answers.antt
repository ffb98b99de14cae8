use Rattle.std.proofs.Common.{ap}
use Rattle.cm_declared.specs.declared.world.World.{World}
use Rattle.cm_replay.proofs.StartLines.{starts_silent}
use Rattle.cm_replay.proofs.starting.send_start.Goals as goal

pub returns-then-shows-clause-sent : goal.returns-then-shows-clause-sent
returns-then-shows-clause-sent g c =
    rw c.if-shows.true
    (rw (ap (λ (v : World). v.start.processes) c.w.view_is) at (rw c.items.ensures at c.send_lines.ensures.sent))

pub returns-then-shows-clause-stopped : goal.returns-then-shows-clause-stopped
returns-then-shows-clause-stopped g c =
    rw c.if-shows.true
    (rw (ap (λ (v : World). v.start.processes) c.w.view_is) at (rw c.items.ensures at c.send_lines.ensures.stopped))

pub returns-else-shows-clause-sent : goal.returns-else-shows-clause-sent
returns-else-shows-clause-sent g c = rw c.if-shows.false (starts_silent _ _)
