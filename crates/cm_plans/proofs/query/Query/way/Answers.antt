use Rattle.std.proofs.Common.{List, get_or, length, ap, ◌∙◌, arith, false, None}
use Rattle.std.proofs.lemmas.List.FromFn.{get_or-map-range_with_len, length-map-range_with_len}
use Rattle.cm_plans.proofs.query.Query.way.Goals as goal
use Rattle.cm_plans.specs.Ways.{way_of}
use Rattle.cm_plans.specs.declared.ways.Way.{Way}
use Rattle.cm_state.specs.Right.{right_of}

pub bounds-ways-at : goal.bounds-ways-at
bounds-ways-at c =
    let q = c.args.self.now in
    let long = ap (λ (ways : List Way). length ways) (c.as_slice-ways.ensures.value ∙ c.requires.ready.ways)
    ∙ length-map-range_with_len (way_of q.spaces.now (right_of q.right.now)) 0 (length q.spaces.now) in
    omega (arith, long, c.requires.stands)

pub returns : goal.returns
returns c =
    let q = c.args.self.now in
    let none : Way = record { above = false; sought = None } in
    ap (λ (ways : List Way). get_or ways c.args.at.0 none) (c.as_slice-ways.ensures.value ∙ c.requires.ready.ways)
    ∙ get_or-map-range_with_len (way_of q.spaces.now (right_of q.right.now)) 0 (length q.spaces.now) c.args.at.0 c.args.at.0 none
    c.requires.stands (omega arith)
