use Rattle.std.proofs.Common.{ℕ, ◌++◌, List, ap, ◌∙◌, subst}
use Rattle.cm_plans.proofs.middles.middle_list.Goals as goal
use Rattle.cm_plans.specs.Middles.{Lists, single_choices}
use Rattle.model_plans.specs.Plan.{Choice, pairs}

pub returns : goal.returns
returns c =
    let spaces = c.args.q.now.spaces.now in
    let singles : List Choice = single_choices c.args.q.now.world.now.files spaces c.args.at.0 in
    subst (Lists spaces c.put_pairs.new.list.items)
    (ap (λ (special : List ℕ). singles ++ pairs special) (c.deref.ensures.value ∙ c.requires.special))
    (c.in_ok-put_pairs.ensures spaces singles c.in_ok-list.ensures)
