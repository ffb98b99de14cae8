use Rattle.std.proofs.Common.{List, sym, subst}
use Rattle.std.specs.Prelude.{All}
use Rattle.cm_plans.proofs.turn.next_of_turn.Goals as goal
use Rattle.cm_plans.specs.Choices.{IsChoiceOfWalk}
use Rattle.cm_plans.specs.declared.choices.Choice.{Choice}

pub run_for-requires-clause-first : goal.run_for-requires-clause-first
run_for-requires-clause-first c =
    (c.in-Some.ensures.standing c.args.q.now.spaces.now
    (subst (λ (ms : List Choice). All (IsChoiceOfWalk c.args.q.now.spaces.now) ms) (sym c.deref.ensures.value) c.requires.stand.middles)
    c.requires.stand.place).0.0

pub run_for-requires-clause-middle : goal.run_for-requires-clause-middle
run_for-requires-clause-middle c =
    (c.in-Some.ensures.standing c.args.q.now.spaces.now
    (subst (λ (ms : List Choice). All (IsChoiceOfWalk c.args.q.now.spaces.now) ms) (sym c.deref.ensures.value) c.requires.stand.middles)
    c.requires.stand.place).0.1

pub run_for-requires-clause-last : goal.run_for-requires-clause-last
run_for-requires-clause-last c =
    (c.in-Some.ensures.standing c.args.q.now.spaces.now
    (subst (λ (ms : List Choice). All (IsChoiceOfWalk c.args.q.now.spaces.now) ms) (sym c.deref.ensures.value) c.requires.stand.middles)
    c.requires.stand.place).1

pub returns-in_ok-run-in-Some-clause-stand : goal.returns-in_ok-run-in-Some-clause-stand
returns-in_ok-run-in-Some-clause-stand c = record {
  middles = c.requires.stand.middles;
  place =
      (c.in-Some.ensures.standing c.args.q.now.spaces.now
      (subst (λ (ms : List Choice). All (IsChoiceOfWalk c.args.q.now.spaces.now) ms) (sym c.deref.ensures.value) c.requires.stand.middles)
      c.requires.stand.place).0;
}
