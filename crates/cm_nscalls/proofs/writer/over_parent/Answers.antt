use Rattle.std.proofs.Common.{◌≡◌, ◌∙◌, [], Some, ap, sym, arith}
use Rattle.std.specs.Prelude.{option_map}
use Rattle.std.specs.List.{list_any}
use Rattle.cm_base.specs.declared.id.SpaceId.{SpaceId}
use Rattle.cm_nscalls.proofs.writer.over_parent.Goals as goal
use Rattle.model_cred.proofs.Spaces.{chain_empty}
use Rattle.model_cred.specs.Space.{Space, chain, space_of}
use Rattle.model_rules.specs.Maps.{has_over_parent}

pub returns-else-parent-count : goal.returns-else-parent-count
returns-else-parent-count c =
    let none : chain c.args.spaces.now c.in-Some.parent.0 ≡ [] =
    chain_empty c.args.spaces.now c.in-Some.parent.0 (omega (arith, c.if-parent-count.false, c.count.ensures)) in
    let its : (space_of c.args.spaces.now c.args.w.target.0).parent ≡ Some c.in-Some.parent.0 =
    sym (ap (λ (s : Space). s.parent) (c.behind-spaces.view_is ∙ c.standing.ensures)) ∙ ap (option_map (λ (p : SpaceId). p.0)) c.in-Some.is in
    sym (ap (has_over_parent c.args.spaces.now c.args.w.at.0 c.args.c.now c.args.cap) its ∙ ap (list_any _) none)
