use Rattle.std.proofs.Common.{◌+◌, ℕ, ◌∷◌, List, drop, get_or, map, option_map, sym, ap, ◌∙◌}
use Rattle.std.proofs.lemmas.List.{drop_more}
use Rattle.cm_base.specs.declared.res.FileRef.TheVariants.{Row}
use Rattle.cm_plans.proofs.Finding.{middle_some, middle_none}
use Rattle.cm_plans.proofs.walk.find_second.Goals as goal
use Rattle.cm_plans.specs.Choices.{choice_of}
use Rattle.cm_plans.specs.Moves.{setting}
use Rattle.model_plans.specs.Move.{Move, RunFile}
use Rattle.model_plans.specs.Plan.{run_row}
use Rattle.model_plans.specs.Walk.{middle_found}

pub returns-in-Some-clause-found : goal.returns-in-Some-clause-found
returns-in-Some-clause-found c =
    let q = setting c.args.q.now in
    let rows : List ℕ = c.as_slice-rows.result.now in
    let i : ℕ = c.loop-second.second-index in
    let there = rw c.loop-second.invariant.same at c.in-Some.ensures.found in
    ap (option_map (λ (moves : List Move). RunFile (Row c.args.first) ∷ moves))
    (sym (ap (λ (ns : List ℕ). middle_found q c.args.seat.now (map run_row ns)) (drop_more rows i 0 c.loop-second-test.true)
    ∙ middle_some q c.args.seat.now (run_row (get_or rows i 0)) (choice_of c.in-Some.last) (map run_row (drop (i + 1) rows)) (sym there))
    ∙ c.loop-second.invariant.left
    ∙ ap (λ (ns : List ℕ). middle_found q c.args.seat.now (map run_row ns)) c.as_slice-rows.ensures.value)

pub loop-second-preserved : goal.loop-second-preserved
loop-second-preserved c = record {
  same = c.try_middle.ensures.same ∙ c.loop-second.invariant.same;
  left =
      let q = setting c.args.q.now in
      let rows : List ℕ = c.as_slice-rows.result.now in
      let i : ℕ = c.loop-second.second-index in
      let none = rw c.loop-second.invariant.same at c.in-None.ensures.found in
      sym (ap (λ (ns : List ℕ). middle_found q c.args.seat.now (map run_row ns)) (drop_more rows i 0 c.loop-second-test.true)
      ∙ middle_none q c.args.seat.now (run_row (get_or rows i 0)) (map run_row (drop (i + 1) rows)) (sym none))
      ∙ c.loop-second.invariant.left;
}
