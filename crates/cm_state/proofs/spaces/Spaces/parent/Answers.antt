use Rattle.std.proofs.Common.{◌∙◌, ap, refl, sym}
use Rattle.cm_state.proofs.Climbs.{chain_here, older_here}
use Rattle.cm_state.proofs.SpaceWrites.{space_here, stands_at}
use Rattle.cm_state.proofs.spaces.Spaces.parent.Goals as goal
use Rattle.model_cred.specs.Space.{Space, space_of}

pub returns-clause-parent : goal.returns-clause-parent
returns-clause-parent c =
    ap (λ (s : Space). s.parent)
    (c.behind-self.view_is
    ∙ sym (space_here c.self.inside.list.items c.args.s.0 _
    (stands_at c.self.inside.list.items c.args.self.now c.args.s.0 c.requires c.self.view_is) c.index.ensures)
    ∙ ap (λ spaces. space_of spaces c.args.s.0) c.self.view_is)

pub returns-clause-chain : goal.returns-clause-chain
returns-clause-chain c =
    chain_here c.self.inside.list.items c.args.self.now c.args.s.0 _ _ c.requires c.index.ensures c.behind-self.view_is c.self.view_is c.self.invariant.0

pub returns-clause-older : goal.returns-clause-older
returns-clause-older c =
    older_here c.self.inside.list.items c.args.self.now c.args.s.0 _ _ c.behind-self.inside.parent
    c.requires c.index.ensures c.behind-self.view_is c.self.view_is refl
    c.self.invariant.0
