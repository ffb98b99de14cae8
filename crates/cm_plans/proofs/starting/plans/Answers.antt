use Rattle.std.proofs.Common.{List, sym, subst, ◌∙◌}
use Rattle.std.specs.Prelude.{All}
use Rattle.std.proofs.lemmas.List.Elements.{All-nil}
use Rattle.cm_plans.proofs.starting.plans.Goals as goal
use Rattle.cm_plans.specs.Choices.{IsChoiceOfWalk}
use Rattle.cm_plans.specs.declared.choices.Choice.{Choice}

pub invariant_of-result : goal.invariant_of-result
invariant_of-result c =
    let spaces = c.in_ok-q.q.spaces.now in (
      c.in_ok-q.ensures.ready,
      c.in_ok-q.ensures.about.of_spaces,
      record {
        middles = subst (λ (ms : List Choice). All (IsChoiceOfWalk spaces) ms) (sym (c.turn_with-turn.ensures.middles ∙ c.new-3.ensures.items))
            (All-nil (IsChoiceOfWalk spaces));
        place = c.turn_with-turn.ensures.stand spaces;
      },
    )
