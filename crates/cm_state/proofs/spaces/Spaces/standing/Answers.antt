use Rattle.std.proofs.Common.{◌∙◌, ap, sym}
use Rattle.cm_state.proofs.SpaceWrites.{space_here, stands_at}
use Rattle.cm_state.proofs.spaces.Spaces.standing.Goals as goal
use Rattle.model_cred.specs.Space.{space_of}

pub returns : goal.returns
returns c =
    sym (space_here c.self.inside.list.items c.args.s.0 _
    (stands_at c.self.inside.list.items c.args.self.now c.args.s.0 c.requires c.self.view_is) c.index.ensures)
    ∙ ap (λ spaces. space_of spaces c.args.s.0) c.self.view_is
