use Rattle.std.proofs.Common.{◌≡◌, ◌∙◌, false, ap, sym}
use Rattle.cm_exec.proofs.counts.is_root_above.Goals as goal
use Rattle.cm_state.proofs.Climbs.{none_passes}
use Rattle.model_cred.specs.Space.{space_of}
use Rattle.model_rules.specs.FileView.{is_same_id}
use Rattle.model_rules.specs.Zero.{zero_of}

pub returns-in-None : goal.returns-in-None
returns-in-None c =
    let fails : is_same_id c.args.root.now (zero_of (space_of c.args.spaces.now c.loop-parent.n.0)) ≡ false =
    ap (is_same_id c.args.root.now) (ap zero_of (sym c.standing.ensures) ∙ sym c.zero.ensures.image) ∙ sym c.is_same_id.ensures ∙ c.if-is_same_id.false in
    none_passes (λ m. is_same_id c.args.root.now (zero_of (space_of c.args.spaces.now m))) c.args.spaces.now c.loop-parent.n.0 c.in-None.ensures.chain fails
    ∙ c.loop-parent.invariant.same
