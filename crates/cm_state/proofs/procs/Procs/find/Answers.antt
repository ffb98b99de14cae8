use Rattle.cm_state.proofs.Places.{found_there, none_there, rises}
use Rattle.cm_state.proofs.procs.Procs.find.Goals as goal

pub find-requires : goal.find-requires
find-requires c = rw (c.deref.ensures.value, c.self.view_is) (rises c.args.self.now c.requires)

pub returns-clause-found : goal.returns-clause-found
returns-clause-found c =
    found_there c.find.result c.args.self.now c.args.pid
    (rw (c.deref.ensures.value, c.self.view_is) at c.find.ensures.found)
    (rw (c.deref.ensures.value, c.self.view_is) at c.find.ensures.within)

pub returns-clause-none : goal.returns-clause-none
returns-clause-none c =
    none_there c.find.result c.args.self.now c.args.pid
    (rw (c.deref.ensures.value, c.self.view_is) at c.find.ensures.none)
