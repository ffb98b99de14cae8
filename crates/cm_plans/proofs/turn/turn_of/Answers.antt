use Rattle.std.proofs.Common.{List, sym, subst, ◌∙◌}
use Rattle.std.specs.Prelude.{All}
use Rattle.std.proofs.lemmas.List.Elements.{All-nil}
use Rattle.cm_plans.proofs.turn.turn_of.Goals as goal
use Rattle.cm_plans.specs.Choices.{IsChoiceOfWalk}
use Rattle.cm_plans.specs.declared.choices.Choice.{Choice}

pub returns-in_ok-middles-in-Some-clause-stand : goal.returns-in_ok-middles-in-Some-clause-stand
returns-in_ok-middles-in-Some-clause-stand c = record {
  middles = subst (λ (ms : List Choice). All (IsChoiceOfWalk c.args.q.now.spaces.now) ms) (sym c.turn_with.ensures.middles)
      c.in_ok-middles-in-Some.ensures.walks;
  place = c.turn_with.ensures.stand c.args.q.now.spaces.now;
}

pub returns-in-None-clause-stand : goal.returns-in-None-clause-stand
returns-in-None-clause-stand c = record {
  middles = subst (λ (ms : List Choice). All (IsChoiceOfWalk c.args.q.now.spaces.now) ms)
      (sym (c.turn_with-in-None.ensures.middles ∙ c.new.ensures.items)) (All-nil (IsChoiceOfWalk c.args.q.now.spaces.now));
  place = c.turn_with-in-None.ensures.stand c.args.q.now.spaces.now;
}
