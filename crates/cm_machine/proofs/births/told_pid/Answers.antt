use Rattle.cm_machine.proofs.ChildPids.{child_given, other_given}
use Rattle.cm_machine.proofs.births.told_pid.Goals as goal

pub returns-in-Child-clause-told : goal.returns-in-Child-clause-told
returns-in-Child-clause-told c =
    rw c.in-Child.is (child_given c.args.procs.now c.args.call.now c.in-Child.pid c.see_pid.ensures)

pub returns-in_default : goal.returns-in_default
returns-in_default c = record {
  told = other_given c.args.procs.now c.args.call.now c.args.told.now _ c.in_default.not-Child c.requires.inside c.own_pid.ensures.own;
  free = c.own_pid.ensures.free;
}
