use Rattle.std.proofs.Common.{◌∙◌, ap}
use Rattle.cm_ordered.specs.Order.{put_by}
use Rattle.cm_state.proofs.Places.{falls, none_alive, put_fresh, rises}
use Rattle.cm_state.proofs.procs.Procs.insert.Goals as goal
use Rattle.cm_state.specs.Places.{pid_of}

pub insert-requires-clause-ascends : goal.insert-requires-clause-ascends
insert-requires-clause-ascends c = rw c.self.view_is (rises c.args.self.now c.requires.ascends)

pub insert-requires-clause-fresh : goal.insert-requires-clause-fresh
insert-requires-clause-fresh c = rw c.self.view_is (none_alive c.args.self.now c.args.p.pid c.requires.fresh)

pub returns-clause-put : goal.returns-clause-put
returns-clause-put c =
    c.in_ok-insert.ensures.items ∙ ap (put_by pid_of c.args.p) c.self.view_is
    ∙ put_fresh c.args.p c.args.self.now (none_alive c.args.self.now c.args.p.pid c.requires.fresh)

pub returns-clause-still : goal.returns-clause-still
returns-clause-still c = falls _ c.in_ok-insert.ensures.ascends
