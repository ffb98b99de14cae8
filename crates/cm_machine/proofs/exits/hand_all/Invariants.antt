use Rattle.std.proofs.Common.{◌≡◌}
use Rattle.cm_machine.proofs.Handing.{map_first}
use Rattle.cm_machine.proofs.exits.hand_all.Given as goal
use Rattle.model_cred.specs.Process.{after_exit}

abbrev pub invariant-loop-p : goal.invariant-loop-p
invariant-loop-p l = l.list ≡ map_first l.p-index (after_exit l.gone) l.initial.list
