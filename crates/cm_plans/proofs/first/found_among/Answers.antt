use Rattle.std.proofs.Common.{ℕ, ◌+◌, drop, None, Some, sym, ap, subst, ◌∙◌}
use Rattle.std.proofs.Math.ListN.{drop_of_length-le}
use Rattle.model_plans.specs.Walk.{found_among}
use Rattle.cm_filter.specs.Filters.{permits}
use Rattle.cm_plans.proofs.Items.{next_of}
use Rattle.cm_plans.proofs.Members.{among_next}
use Rattle.cm_plans.proofs.Questions.{same_then, still_beside, still_ready}
use Rattle.cm_plans.proofs.first.found_among.Goals as goal
use Rattle.cm_plans.specs.Finds.{FoundForIs}
use Rattle.cm_plans.specs.declared.query.Query.{Query}
use Rattle.cm_state.specs.Right.{right_of}
use Rattle.cm_declared.specs.World.{world_of}

pub found_for-requires : goal.found_for-requires
found_for-requires c = record {
  ready = still_ready c.args.q.now c.loop-pid.q c.loop-pid.invariant.question c.requires.ready;
  same = still_beside c.args.q.now c.loop-pid.q c.loop-pid.invariant.question c.args.st.now.spaces c.requires.same;
}

pub returns-in-Some : goal.returns-in-Some
returns-in-Some c =
    let members = c.args.members.now in
    let i : ℕ = c.loop-pid.pid-index in
    let left = next_of members i c.pid-item.result c.loop-pid-test.true c.pid-item.is in
    let mine = subst (λ (q : Query). FoundForIs q c.args.st.now c.pid-item.result (Some c.in-Some.found)) c.loop-pid.invariant.question
    (rw c.in-Some.is at c.in_ok-found.ensures.found) in
    sym (among_next (permits c.args.q.now.world.now.filter) (world_of c.args.q.now.world.now) c.args.st.now (right_of c.args.q.now.right.now) (drop i members)
    (drop (i + 1) members) c.pid-item.result (Some c.in-Some.found) left mine)
    ∙ c.loop-pid.invariant.found

pub loop-pid-preserved : goal.loop-pid-preserved
loop-pid-preserved c =
    let members = c.args.members.now in
    let i : ℕ = c.loop-pid.pid-index in
    let left = next_of members i c.pid-item.result c.loop-pid-test.true c.pid-item.is in
    let mine = subst (λ (q : Query). FoundForIs q c.args.st.now c.pid-item.result None) c.loop-pid.invariant.question
    (rw c.in-None.is at c.in_ok-found.ensures.found) in
    record {
      found =
          sym (among_next (permits c.args.q.now.world.now.filter) (world_of c.args.q.now.world.now) c.args.st.now (right_of c.args.q.now.right.now)
          (drop i members) (drop (i + 1) members) c.pid-item.result None left mine)
          ∙ c.loop-pid.invariant.found;
      question = same_then c.args.q.now c.loop-pid.q c.found_for.new.q c.loop-pid.invariant.question c.in_ok-found.ensures.question;
    }

pub returns : goal.returns
returns c =
    sym (ap (found_among (permits c.args.q.now.world.now.filter) (world_of c.args.q.now.world.now) c.args.st.now (right_of c.args.q.now.right.now))
    (drop_of_length-le c.args.members.now c.loop-pid-test.false))
    ∙ c.loop-pid.invariant.found
