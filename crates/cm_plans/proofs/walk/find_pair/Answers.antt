use Rattle.std.proofs.Common.{◌+◌, ℕ, List, drop, get_or, map, sym, ap, ◌∙◌}
use Rattle.std.proofs.lemmas.List.{drop_more}
use Rattle.std.specs.List.{flat_map}
use Rattle.cm_plans.proofs.Pairing.{first_part, second_part}
use Rattle.cm_plans.proofs.walk.find_pair.Goals as goal
use Rattle.cm_plans.specs.Choices.{moves_of_two}
use Rattle.cm_plans.specs.Moves.{setting}
use Rattle.model_plans.specs.Plan.{Choice, pairs, run_two}
use Rattle.model_plans.specs.Walk.{middle_found}

pub find_pair_of-requires-clause-tried : goal.find_pair_of-requires-clause-tried
find_pair_of-requires-clause-tried c = rw c.loop-first.invariant.same c.loop-first.invariant.tried

pub returns-in-Some-clause-found : goal.returns-in-Some-clause-found
returns-in-Some-clause-found c =
    let q = setting c.args.q.now in
    let rows : List ℕ = c.as_slice-rows.result.now in
    let i : ℕ = c.loop-first.first-index in
    let Of : List ℕ → List Choice = flat_map (λ first. map (run_two first) rows) in
    let there = rw (sym c.as_slice-rows.ensures.value) at (rw c.loop-first.invariant.same at c.in-Some.ensures.found) in
    sym (ap (λ (ns : List ℕ). middle_found q c.args.seat.now (Of ns)) (drop_more rows i 0 c.loop-first-test.true)
    ∙ first_part q c.args.seat.now (map (run_two (get_or rows i 0)) rows) (Of (drop (i + 1) rows)) (moves_of_two c.in-Some.found) (sym there))
    ∙ c.loop-first.invariant.left
    ∙ ap (λ (ns : List ℕ). middle_found q c.args.seat.now (pairs ns)) c.as_slice-rows.ensures.value

pub loop-first-preserved : goal.loop-first-preserved
loop-first-preserved c = record {
  same = c.find_pair_of.ensures.same ∙ c.loop-first.invariant.same;
  left =
      let q = setting c.args.q.now in
      let rows : List ℕ = c.as_slice-rows.result.now in
      let i : ℕ = c.loop-first.first-index in
      let Of : List ℕ → List Choice = flat_map (λ first. map (run_two first) rows) in
      let none = rw (sym c.as_slice-rows.ensures.value) at (rw c.loop-first.invariant.same at c.in-None.ensures.found) in
      sym (ap (λ (ns : List ℕ). middle_found q c.args.seat.now (Of ns)) (drop_more rows i 0 c.loop-first-test.true)
      ∙ second_part q c.args.seat.now (map (run_two (get_or rows i 0)) rows) (Of (drop (i + 1) rows)) (sym none))
      ∙ c.loop-first.invariant.left;
  tried = rw c.loop-first.invariant.same at c.find_pair_of.ensures.tried;
}
