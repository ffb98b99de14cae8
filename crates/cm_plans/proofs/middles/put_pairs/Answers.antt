use Rattle.std.proofs.Common.{ℕ, ◌+◌, List, map, drop, ap, arith}
use Rattle.std.specs.List.{flat_map}
use Rattle.std.proofs.lemmas.List.{drop_more, drop_all}
use Rattle.cm_plans.proofs.Putting.{towards_more, towards_end}
use Rattle.cm_plans.proofs.middles.put_pairs.Goals as goal
use Rattle.model_plans.specs.Plan.{Choice, pairs, run_two}

pub loop-first-preserved : goal.loop-first-preserved
loop-first-preserved c spaces =
    let rows = c.args.rows.now in
    let Of : List ℕ → List Choice = flat_map (λ first. map (run_two first) rows) in
    towards_more spaces _ (Of (drop (c.loop-first.first-index + 1) rows)) (pairs rows) (Of (drop c.loop-first.first-index rows))
    c.args.list.now.items c.loop-first.list.items c.put_pairs_of.new.list.items
    (ap Of (drop_more rows c.loop-first.first-index 0 c.loop-first-test.true))
    (c.loop-first.invariant spaces) (c.in_ok-put_pairs_of.ensures spaces)

pub returns : goal.returns
returns c spaces =
    let rows = c.args.rows.now in
    let Of : List ℕ → List Choice = flat_map (λ first. map (run_two first) rows) in
    towards_end spaces (pairs rows) (Of (drop c.loop-first.first-index rows)) c.args.list.now.items c.loop-first.list.items
    (ap Of (drop_all c.loop-first.first-index rows (omega (arith, c.loop-first-test.false)))) (c.loop-first.invariant spaces)
