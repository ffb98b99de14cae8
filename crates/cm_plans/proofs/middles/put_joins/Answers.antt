use Rattle.std.proofs.Common.{◌≡◌, ℕ, suc, ◌+◌, length, refl, subst, arith}
use Rattle.std.specs.List.{range_with_len}
use Rattle.cm_plans.proofs.Putting.{joins_of, join_step, Towards, towards_start, towards_more, towards_end}
use Rattle.cm_plans.proofs.middles.put_joins.Goals as goal
use Rattle.cm_plans.specs.Choices.{join_of}
use Rattle.model_plans.specs.Plan.{joins}

pub loop-n-init : goal.loop-n-init
loop-n-init c m is =
    let spaces = c.args.spaces.now in
    let same : length spaces ≡ m = omega (arith, is) in
    subst (λ (k : ℕ). Towards spaces (joins_of c.args.at.0 (range_with_len 0 k)) (joins spaces c.args.at.0) c.args.list.now.items c.args.list.now.items) same
    (towards_start spaces (joins spaces c.args.at.0) c.args.list.now.items)

pub loop-n-preserved : goal.loop-n-preserved
loop-n-preserved c m is =
    let spaces = c.args.spaces.now in
    let at : ℕ = c.args.at.0 in
    towards_more spaces (join_of at c.loop-n.n) (joins_of at (range_with_len (c.loop-n.n + 1) m)) (joins spaces at)
    (joins_of at (range_with_len c.loop-n.n (suc m))) c.args.list.now.items c.loop-n.list.items c.put_join.new.list.items
    (join_step at c.loop-n.n (range_with_len (c.loop-n.n + 1) m))
    (c.loop-n.invariant (suc m) (omega (arith, is))) c.in_ok-put_join.ensures

pub returns : goal.returns
returns c =
    let spaces = c.args.spaces.now in
    towards_end spaces (joins spaces c.args.at.0) (joins_of c.args.at.0 (range_with_len c.loop-n.n 0)) c.args.list.now.items
    c.loop-n.list.items refl (c.loop-n.invariant 0 (omega arith))
