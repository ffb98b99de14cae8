use Rattle.cm_machine.proofs.Leaving.{leave_keeps}
use Rattle.cm_machine.proofs.exits.exit.Goals as goal

pub invariant_of-state : goal.invariant_of-state
invariant_of-state c =
    leave_keeps c.state.inside.procs c.remove-gone.new.self c.hand_over.new.procs _ c.remove-gone.result c.state.invariant.0 c.state.invariant.1
    (c.remove-gone.ensures.others c.state.invariant.0) c.hand_over.ensures
