use Rattle.std.proofs.Common.{◌∙◌, ap, reverse, slice_set}
use Rattle.cm_state.proofs.SpaceWrites.{put_here, keeps_here}
use Rattle.cm_state.proofs.spaces.Spaces.set_deny.Goals as goal
use Rattle.model_cred.specs.Space.{Space}

pub invariant_of-self : goal.invariant_of-self
invariant_of-self c =
    keeps_here c.self.inside.list.items c.args.self.now c.args.s.0 _ _ c.requires c.index_mut.ensures.value c.self.view_is
    (ap (λ (s : Space). s.parent) c.behind-self.view_is) c.self.invariant

pub returns : goal.returns
returns c =
    ap (λ (s : Space). reverse (slice_set c.self.inside.list.items c.args.s.0 (record s { deny = c.args.deny }))) c.behind-self.view_is
    ∙ put_here c.self.inside.list.items c.args.self.now c.args.s.0 _ (λ s. record s { deny = c.args.deny }) c.requires c.index_mut.ensures.value
    c.self.view_is
