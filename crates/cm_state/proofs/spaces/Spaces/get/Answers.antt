use Rattle.std.proofs.Common.{◌∙◌, ap, arith}
use Rattle.model_cred.specs.Space.{space_at}
use Rattle.cm_state.proofs.SpacePlaces.{space_at_place, no_space_at_place}
use Rattle.cm_state.proofs.spaces.Spaces.get.Goals as goal

pub returns-then-at-len : goal.returns-then-at-len
returns-then-at-len c =
    space_at_place c.self.inside.list.items c.args.s.0 c.index.result.now (omega arith) c.index.ensures
    ∙ ap (λ spaces. space_at spaces c.args.s.0) c.self.view_is

pub returns-else-at-len : goal.returns-else-at-len
returns-else-at-len c = no_space_at_place c.self.inside.list.items c.args.s.0 (omega arith) ∙ ap (λ spaces. space_at spaces c.args.s.0) c.self.view_is
