use Rattle.std.proofs.Common.{ℕ, ◌+◌, List, map, drop, ap, arith}
use Rattle.std.proofs.lemmas.List.{drop_more, drop_all}
use Rattle.cm_plans.proofs.Putting.{towards_more, towards_end}
use Rattle.cm_plans.proofs.middles.put_pairs_of.Goals as goal
use Rattle.model_plans.specs.Plan.{Choice, run_two}

pub loop-second-preserved : goal.loop-second-preserved
loop-second-preserved c spaces =
    let rows = c.args.rows.now in
    let Of : List ℕ → List Choice = map (run_two c.args.first) in
    towards_more spaces _ (Of (drop (c.loop-second.second-index + 1) rows)) (Of rows) (Of (drop c.loop-second.second-index rows))
    c.args.list.now.items c.loop-second.list.items c.put.new.list.items
    (ap Of (drop_more rows c.loop-second.second-index 0 c.loop-second-test.true))
    (c.loop-second.invariant spaces) (c.in_ok-put.ensures spaces (tt, tt))

pub returns : goal.returns
returns c spaces =
    let rows = c.args.rows.now in
    let Of : List ℕ → List Choice = map (run_two c.args.first) in
    towards_end spaces (Of rows) (Of (drop c.loop-second.second-index rows)) c.args.list.now.items c.loop-second.list.items
    (ap Of (drop_all c.loop-second.second-index rows (omega (arith, c.loop-second-test.false)))) (c.loop-second.invariant spaces)
