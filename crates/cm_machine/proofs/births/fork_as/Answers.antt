use Rattle.std.proofs.Common.{◌<◌, length, ap}
use Rattle.cm_machine.proofs.Changing.{insert_keeps, there_at}
use Rattle.cm_machine.proofs.births.fork_as.Goals as goal
use Rattle.model_cred.specs.Process.{State}

pub invariant_of-state : goal.invariant_of-state
invariant_of-state c =
    let within : c.args.at < length c.state.inside.procs = rw (ap (λ (s : State). s.processes) c.state.view_is) c.requires.here in
    let p = there_at c.state.inside.procs c.args.at _ within c.state.invariant.1 in (
      c.insert.ensures.still,
      insert_keeps c.insert.result c.state.inside.procs c.insert.new.self (length c.state.inside.spaces) c.in_ok-child.child c.state.invariant.1
          (rw (c.in_ok-child.ensures p.0 p.1) p.2) c.insert.ensures.put c.insert.ensures.unchanged,
    )
