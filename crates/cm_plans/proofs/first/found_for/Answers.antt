use Rattle.std.proofs.Common.{subst}
use Rattle.cm_base.specs.Outcome.{OrNoMemory}
use Rattle.cm_plans.proofs.Questions.{still_beside, still_ready}
use Rattle.cm_plans.proofs.first.found_for.Goals as goal
use Rattle.cm_plans.specs.Finds.{FoundForIs}
use Rattle.cm_plans.specs.declared.query.Query.{Query}

pub found_by-requires : goal.found_by-requires
found_by-requires c = record {
  ready = still_ready c.args.q.now c.let_move.new.self c.let_move.ensures.same c.requires.ready;
  same = still_beside c.args.q.now c.let_move.new.self c.let_move.ensures.same c.args.st.now.spaces c.requires.same;
  moves = c.let_move.ensures.moves;
}

pub returns-clause-found : goal.returns-clause-found
returns-clause-found c =
    subst (λ (q : Query). OrNoMemory c.found_by.result (FoundForIs q c.args.st.now c.args.pid)) c.let_move.ensures.same c.found_by.ensures
