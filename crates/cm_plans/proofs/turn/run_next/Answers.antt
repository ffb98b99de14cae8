use Rattle.std.proofs.lemmas.Result.{IfOk-weaker}
use Rattle.cm_plans.proofs.Questions.{steps_before, still_beside, still_ready, still_stands, stood_before}
use Rattle.cm_plans.proofs.turn.run_next.Goals as goal
use Rattle.cm_plans.specs.Turns.{left_in}
use Rattle.model_cred.specs.Right.{Right}

pub next_of_turn-requires : goal.next_of_turn-requires
next_of_turn-requires c = record {
  ready = still_ready c.args.q.now c.let_move.new.self c.let_move.ensures.same c.requires.ready;
  same = still_beside c.args.q.now c.let_move.new.self c.let_move.ensures.same c.args.st.now.spaces c.requires.same;
  moves = c.let_move.ensures.moves;
  stand = still_stands c.args.q.now c.let_move.new.self c.let_move.ensures.same c.args.t.now c.requires.stand;
}

pub returns-clause-steps : goal.returns-clause-steps
returns-clause-steps c =
    IfOk-weaker c.next_of_turn.result _ _ (λ run steps.
    steps_before c.args.q.now c.let_move.new.self c.let_move.ensures.same c.args.st.now (λ (right : Right). left_in right c.args.t.now) _
    (λ (right : Right). left_in right c.next_of_turn.new.t) steps) c.next_of_turn.ensures.steps

pub returns-clause-stand : goal.returns-clause-stand
returns-clause-stand c = stood_before c.args.q.now c.let_move.new.self c.let_move.ensures.same c.next_of_turn.new.t c.next_of_turn.ensures.stand
