use Rattle.std.proofs.Common.{◌≡◌, ℕ, suc, ◌+◌, [], ◌∷◌, map, length, refl, subst, arith}
use Rattle.std.specs.List.{range_with_len}
use Rattle.cm_plans.proofs.Putting.{Towards, towards_start, towards_more, towards_end}
use Rattle.cm_plans.proofs.middles.put_rows.Goals as goal
use Rattle.model_plans.specs.Plan.{numbers, run_row}

pub loop-n-init : goal.loop-n-init
loop-n-init c m is spaces =
    let rows = c.args.files.now.rows in
    let same : length rows ≡ m = omega (arith, is) in
    subst (λ (k : ℕ). Towards spaces (map run_row (range_with_len 0 k)) (map run_row (numbers rows)) c.args.list.now.items c.args.list.now.items) same
    (towards_start spaces (map run_row (numbers rows)) c.args.list.now.items)

pub loop-n-preserved : goal.loop-n-preserved
loop-n-preserved c m is spaces =
    towards_more spaces (run_row c.loop-n.n ∷ []) (map run_row (range_with_len (c.loop-n.n + 1) m)) (map run_row (numbers c.args.files.now.rows))
    (map run_row (range_with_len c.loop-n.n (suc m))) c.args.list.now.items c.loop-n.list.items c.put.new.list.items refl
    (c.loop-n.invariant (suc m) (omega (arith, is)) spaces) (c.in_ok-put.ensures spaces tt)

pub returns : goal.returns
returns c spaces =
    towards_end spaces (map run_row (numbers c.args.files.now.rows)) (map run_row (range_with_len c.loop-n.n 0)) c.args.list.now.items
    c.loop-n.list.items refl (c.loop-n.invariant 0 (omega arith) spaces)
