use Rattle.std.proofs.Common.{suc, ◌+◌, List, [], ◌∷◌, ◌++◌, map, sym, ap, ◌∙◌, arith}
use Rattle.std.specs.List.{range_with_len}
use Rattle.std.proofs.lemmas.List.{append_assoc, append-nil}
use Rattle.cm_plans.proofs.ways.ways_to.Goals as goal
use Rattle.cm_plans.specs.Ways.{way_of}
use Rattle.cm_plans.specs.declared.ways.Way.{Way}
use Rattle.cm_state.specs.Right.{right_of}

pub loop-n-preserved : goal.loop-n-preserved
loop-n-preserved c m is =
    let rest : List Way = map (way_of c.args.spaces.now (right_of c.args.right.now)) (range_with_len (c.loop-n.n + 1) m) in
    ap (λ (ways : List Way). ways ++ rest) c.in_ok-push.ensures.items
    ∙ append_assoc c.loop-n.ways.items (c.way_of.result ∷ []) rest
    ∙ ap (λ (way : Way). c.loop-n.ways.items ++ way ∷ rest) c.way_of.ensures
    ∙ c.loop-n.invariant (suc m) (omega (arith, is))

pub returns : goal.returns
returns c = sym (append-nil c.loop-n.ways.items) ∙ c.loop-n.invariant 0 (omega arith)
