use Rattle.std.proofs.Common.{sym}
use Rattle.cm_machine.proofs.FreePids.{free_option}
use Rattle.cm_machine.proofs.pids.least_free.Goals as goal

pub returns-clause-least : goal.returns-clause-least
returns-clause-least c spaces =
    free_option (record { processes = c.args.procs.now; spaces = spaces }) c.first_gap.result c.new.result c.first_gap.ensures.positive
    (λ pid low high. rw (sym c.items.ensures) (c.first_gap.ensures.alive pid low high)) (rw (sym c.items.ensures) c.first_gap.ensures.free) c.new.ensures
