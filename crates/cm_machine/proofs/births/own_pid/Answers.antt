use Rattle.cm_machine.proofs.ChildPids.{no_birth}
use Rattle.cm_machine.proofs.births.own_pid.Goals as goal
use Rattle.cm_machine.specs.Asking.{state_of}

pub returns-in_default : goal.returns-in_default
returns-in_default c = record {
  own = λ w spaces p. no_birth c.args.call.now c.in_default.not-Fork c.in_default.not-CloneUser w (state_of c.args.procs.now spaces) p _ _;
  free = tt;
}
