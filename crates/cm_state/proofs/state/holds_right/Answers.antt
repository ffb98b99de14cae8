use Rattle.std.proofs.Common.{◌≡◌, ◌∙◌, [], ap, sym, arith}
use Rattle.std.specs.List.{list_any}
use Rattle.cm_state.proofs.state.holds_right.Goals as goal
use Rattle.cm_state.specs.Right.{right_of}
use Rattle.model_cred.proofs.Spaces.{chain_empty}
use Rattle.model_cred.specs.Space.{chain}
use Rattle.model_run.specs.Holds.{holds_right}

pub returns-else-n-count : goal.returns-else-n-count
returns-else-n-count c =
    let none : chain c.args.spaces.now c.in-Cap.n.0 ≡ [] = chain_empty c.args.spaces.now c.in-Cap.n.0 (omega (arith, c.if-n-count.false, c.count.ensures)) in
    sym (ap (λ r. holds_right c.args.spaces.now c.args.p.now.space c.args.p.now.cred (right_of r)) c.in-Cap.is ∙ ap (list_any _) none)
