use Rattle.std.proofs.Common.{ℕ, Bool, Option, ap, ◌∙◌, arith}
use Rattle.cm_plans.proofs.Powers.{no_way}
use Rattle.cm_plans.proofs.ways.way_over.Goals as goal
use Rattle.cm_plans.specs.declared.ways.Way.{Way}
use Rattle.model_cred.specs.Space.{is_at_or_above}

pub returns-then-n-count : goal.returns-then-n-count
returns-then-n-count c cap = no_way c.args.spaces.now c.args.at.0 cap c.args.n.0 (omega arith)

pub returns : goal.returns
returns c cap =
    let Of : Bool → Option ℕ → Way = λ above sought. record { above = above; sought = sought } in
    ap (λ (above : Bool). Of above c.owner_below.result) c.ancestor.ensures
    ∙ ap (Of (is_at_or_above c.args.spaces.now c.args.at.0 c.args.n.0)) (c.owner_below.ensures cap)
