use Rattle.std.proofs.Common.{◌≡◌, ℕ, ◌+◌, List, ◌∷◌, Some, None, drop, sym, ap, ◌∙◌}
use Rattle.std.proofs.lemmas.List.{drop_more}
use Rattle.cm_plans.proofs.Questions.{all_before, same_then, steps_before, still_beside, still_ready, still_stands, stood_before}
use Rattle.cm_plans.proofs.Stepping.{step_end, step_given, step_over}
use Rattle.cm_plans.proofs.cursor.step.Goals as goal
use Rattle.cm_plans.specs.Ready.{IsSameQuestion}
use Rattle.cm_plans.specs.Turns.{left_in}
use Rattle.model_cred.specs.Right.{Right}

pub run_next-requires : goal.run_next-requires
run_next-requires c = record {
  ready = still_ready c.args.q.now c.loop-run.q c.loop-run.invariant.question c.requires.ready;
  same = still_beside c.args.q.now c.loop-run.q c.loop-run.invariant.question c.args.st.now.spaces c.requires.same;
  stand = still_stands c.args.q.now c.loop-run.q c.loop-run.invariant.question c.loop-run.at.turn c.loop-run.invariant.stand;
}

-- ---- no memory for the run
pub returns-in_err-run-clause-stand : goal.returns-in_err-run-clause-stand
returns-in_err-run-clause-stand c = stood_before c.args.q.now c.loop-run.q c.loop-run.invariant.question c.run_next.new.t c.in_err-run.ensures.stand

pub returns-in_err-run-clause-question : goal.returns-in_err-run-clause-question
returns-in_err-run-clause-question c = same_then c.args.q.now c.loop-run.q c.run_next.new.q c.loop-run.invariant.question c.in_err-run.ensures.question

-- ---- the member whose turn it is has a plan left
pub returns-in-Some-clause-steps : goal.returns-in-Some-clause-steps
returns-in-Some-clause-steps c =
    step_given c.args.q.now c.args.st.now c.args.members.now c.args.at.now c.loop-run.at c.loop-run.invariant.begun c.run_next.new.t
    c.in-Some.run'.items c.loop-run.invariant.left
    (steps_before c.args.q.now c.loop-run.q c.loop-run.invariant.question c.args.st.now (λ (right : Right). left_in right c.loop-run.at.turn)
    (Some c.in-Some.run'.items) (λ (right : Right). left_in right c.run_next.new.t) (rw c.in-Some.is at c.in_ok-run.ensures.steps))

pub returns-in-Some-clause-stand : goal.returns-in-Some-clause-stand
returns-in-Some-clause-stand c = stood_before c.args.q.now c.loop-run.q c.loop-run.invariant.question c.run_next.new.t c.in_ok-run.ensures.stand

pub returns-in-Some-clause-question : goal.returns-in-Some-clause-question
returns-in-Some-clause-question c = same_then c.args.q.now c.loop-run.q c.run_next.new.q c.loop-run.invariant.question c.in_ok-run.ensures.question

-- ---- it has none, and no member is left
pub returns-then-at-members-clause-steps : goal.returns-then-at-members-clause-steps
returns-then-at-members-clause-steps c =
    step_end c.args.q.now c.args.st.now c.args.members.now c.args.at.now c.loop-run.at c.loop-run.invariant.begun c.run_next.new.t
    c.if-at-members.true c.loop-run.invariant.left
    (steps_before c.args.q.now c.loop-run.q c.loop-run.invariant.question c.args.st.now (λ (right : Right). left_in right c.loop-run.at.turn)
    None (λ (right : Right). left_in right c.run_next.new.t) (rw c.in-None.is at c.in_ok-run.ensures.steps))

pub returns-then-at-members-clause-stand : goal.returns-then-at-members-clause-stand
returns-then-at-members-clause-stand c = stood_before c.args.q.now c.loop-run.q c.loop-run.invariant.question c.run_next.new.t c.in_ok-run.ensures.stand

pub returns-then-at-members-clause-question : goal.returns-then-at-members-clause-question
returns-then-at-members-clause-question c = same_then c.args.q.now c.loop-run.q c.run_next.new.q c.loop-run.invariant.question c.in_ok-run.ensures.question

-- ---- the turn of the next member
pub turn_of-requires : goal.turn_of-requires
turn_of-requires c =
    let same : IsSameQuestion c.args.q.now c.run_next.new.q
    = same_then c.args.q.now c.loop-run.q c.run_next.new.q c.loop-run.invariant.question c.in_ok-run.ensures.question in
    record {
      ready = still_ready c.args.q.now c.run_next.new.q same c.requires.ready;
      same = still_beside c.args.q.now c.run_next.new.q same c.args.st.now.spaces c.requires.same;
    }

pub returns-in_err-turn-clause-stand : goal.returns-in_err-turn-clause-stand
returns-in_err-turn-clause-stand c = stood_before c.args.q.now c.loop-run.q c.loop-run.invariant.question c.run_next.new.t c.in_ok-run.ensures.stand

pub returns-in_err-turn-clause-question : goal.returns-in_err-turn-clause-question
returns-in_err-turn-clause-question c = same_then c.args.q.now c.loop-run.q c.run_next.new.q c.loop-run.invariant.question c.in_ok-run.ensures.question

pub loop-run-preserved : goal.loop-run-preserved
loop-run-preserved c =
    let same : IsSameQuestion c.args.q.now c.run_next.new.q
    = same_then c.args.q.now c.loop-run.q c.run_next.new.q c.loop-run.invariant.question c.in_ok-run.ensures.question in
    let members : List ℕ = c.args.members.now in
    let at : ℕ = c.loop-run.at.next in
    let next : drop at members ≡ c.index-members-at.result ∷ drop (at + 1) members
    = drop_more members at c.index-members-at.result c.if-at-members.false
    ∙ ap (λ (pid : ℕ). pid ∷ drop (at + 1) members) (sym c.index-members-at.is) in
    record {
      begun = c.loop-run.invariant.begun;
      left =
          step_over c.args.q.now c.args.st.now c.args.members.now c.args.at.now c.loop-run.at c.loop-run.invariant.begun c.run_next.new.t
          c.in_ok-turn.turn _ next c.loop-run.invariant.left
          (steps_before c.args.q.now c.loop-run.q c.loop-run.invariant.question c.args.st.now
          (λ (right : Right). left_in right c.loop-run.at.turn) None (λ (right : Right). left_in right c.run_next.new.t)
          (rw c.in-None.is at c.in_ok-run.ensures.steps))
          (all_before c.args.q.now c.run_next.new.q same c.args.st.now _ (λ (right : Right). left_in right c.in_ok-turn.turn)
          c.in_ok-turn.ensures.plans);
      stand = stood_before c.args.q.now c.run_next.new.q same c.in_ok-turn.turn c.in_ok-turn.ensures.stand;
      question = same;
    }
