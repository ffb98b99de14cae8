use Rattle.std.proofs.Common.{◌<◌, length, ◌∙◌}
use Rattle.cm_state.proofs.Places.{get_of_at, remove_at, remove_ascends}
use Rattle.cm_state.proofs.procs.Procs.remove.Goals as goal

pub returns-clause-others : goal.returns-clause-others
returns-clause-others c up =
    let within : c.args.at < length c.self.inside.list.items = rw c.self.view_is c.requires in
    c.remove.ensures.items ∙ remove_at c.self.inside.list.items c.args.at c.remove.result (get_of_at _ _ _ within c.remove.ensures.value) (rw c.self.view_is up)
    ∙ rw c.self.view_is

pub returns-clause-still : goal.returns-clause-still
returns-clause-still c up = rw c.remove.ensures.items (remove_ascends c.self.inside.list.items c.args.at (rw c.self.view_is up))
