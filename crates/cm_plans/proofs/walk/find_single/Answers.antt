use Rattle.std.proofs.Common.{◌+◌, drop, get_or, map, List, sym, ap, ◌∙◌}
use Rattle.std.proofs.lemmas.List.{drop_more}
use Rattle.cm_plans.proofs.Finding.{middle_some, middle_none}
use Rattle.cm_plans.proofs.walk.find_single.Goals as goal
use Rattle.cm_plans.specs.Choices.{choice_of}
use Rattle.cm_plans.specs.Moves.{setting}
use Rattle.cm_plans.specs.declared.choices.Choice.{Choice}
use Rattle.cm_plans.specs.declared.choices.Choice.TheVariants.{Nothing}
use Rattle.model_plans.specs.Walk.{middle_found}

pub returns-in-Some-clause-found : goal.returns-in-Some-clause-found
returns-in-Some-clause-found c =
    let q = setting c.args.q.now in
    let middles = c.args.singles.now in
    let middle : Choice = get_or middles c.loop-single.single-index Nothing in
    sym (ap (λ (ms : List Choice). middle_found q c.args.seat.now (map choice_of ms))
    (drop_more middles c.loop-single.single-index Nothing c.loop-single-test.true)
    ∙ middle_some q c.args.seat.now (choice_of middle) (choice_of c.in-Some.last)
    (map choice_of (drop (c.loop-single.single-index + 1) middles))
    (sym (rw c.loop-single.invariant.same at c.in-Some.ensures.found)))
    ∙ c.loop-single.invariant.left

pub loop-single-preserved : goal.loop-single-preserved
loop-single-preserved c = record {
  same = c.try_middle.ensures.same ∙ c.loop-single.invariant.same;
  left =
      let q = setting c.args.q.now in
      let middles = c.args.singles.now in
      let middle : Choice = get_or middles c.loop-single.single-index Nothing in
      sym (ap (λ (ms : List Choice). middle_found q c.args.seat.now (map choice_of ms))
      (drop_more middles c.loop-single.single-index Nothing c.loop-single-test.true)
      ∙ middle_none q c.args.seat.now (choice_of middle) (map choice_of (drop (c.loop-single.single-index + 1) middles))
      (sym (rw c.loop-single.invariant.same at c.in-None.ensures.found)))
      ∙ c.loop-single.invariant.left;
}
