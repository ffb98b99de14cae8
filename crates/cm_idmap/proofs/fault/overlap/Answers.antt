use Rattle.std.proofs.Common.{◌≡◌, None, sym, ap}
use Rattle.std.specs.Prelude.{is_some}
use Rattle.model_cred.specs.MapFault.{first_overlap}
use Rattle.cm_idmap.proofs.Beside.{none_meet}
use Rattle.cm_idmap.proofs.fault.overlap.Goals as goal

-- lists in order tell that none meet
none : (c : goal.Then-are_apart) → None ≡ first_overlap 0 c.args.list.now
none c =
    let both = c.are_apart.ensures.0 c.if-are_apart.true in
    sym (none_meet c.args.list.now c.in-Ok.sides (rw c.in-Ok.is at c.requires.sides) c.requires.fine both.0 both.1)

pub returns-in-Ok-clause-fault : goal.returns-in-Ok-clause-fault
returns-in-Ok-clause-fault c = none c

pub returns-in-Ok-clause-some : goal.returns-in-Ok-clause-some
returns-in-Ok-clause-some c = ap is_some (none c)
