use Rattle.std.proofs.Common.{ap, subst, sym, ◌∙◌}
use Rattle.cm_state.proofs.IdSets.{has, search_says}
use Rattle.cm_state.proofs.groups.Groups.has.Goals as goal
use Rattle.model_cred.specs.Credential.{AscendFrom}

pub returns : goal.returns
returns c =
    let up = subst (λ ids. ∥ AscendFrom 0 ids ∥₁) (sym c.deref.ensures.value) c.self.invariant in
    c.is_ok.ensures.value ∙ search_says c.deref.result.now c.args.id c.binary_search.result up c.binary_search.ensures.position
    ∙ ap (λ ids. has ids c.args.id) (c.deref.ensures.value ∙ c.self.view_is)
