use Rattle.std.proofs.Common.{List, ap, ◌∙◌}
use Rattle.std.proofs.lemmas.Result.{IfOk-weaker, on_err_weaker}
use Rattle.cm_declared.specs.World.{world_of}
use Rattle.cm_plans.proofs.Questions.{left_before, still_beside, still_ready, still_stands}
use Rattle.cm_plans.proofs.listing.Plans.next_run.Goals as goal
use Rattle.cm_plans.specs.PlansLeft.{PlansLeft, later}
use Rattle.cm_state.specs.Right.{right_of}
use Rattle.model_plans.specs.Plan.{Plan}

pub invariant_of-self : goal.invariant_of-self
invariant_of-self c =
    let q = c.self.inside.q in
    let same = c.step.ensures.question in (
      still_ready q c.step.new.q same c.self.invariant.0,
      still_beside q c.step.new.q same c.self.inside.st.now.spaces c.self.invariant.1,
      still_stands q c.step.new.q same c.step.new.at.turn c.step.ensures.stand,
    )

pub returns-clause-later : goal.returns-clause-later
returns-clause-later c =
    let q = c.self.inside.q in
    let left_with : List Plan → PlansLeft
    = λ plans. record { world = world_of q.world.now; state = c.self.inside.st.now; right = right_of q.right.now; left = plans } in
    IfOk-weaker c.step.result _ _ (λ run steps.
    left_before q c.step.new.q c.step.ensures.question c.self.inside.st.now c.self.inside.members.now c.step.new.at
    ∙ ap left_with steps.rest
    ∙ ap (λ (p : PlansLeft). record p { left = later p.left }) c.self.view_is) c.step.ensures.steps

pub returns-clause-unchanged : goal.returns-clause-unchanged
returns-clause-unchanged c =
    let q = c.self.inside.q in
    let left_with : List Plan → PlansLeft
    = λ plans. record { world = world_of q.world.now; state = c.self.inside.st.now; right = right_of q.right.now; left = plans } in
    on_err_weaker c.step.result (λ kept.
    left_before q c.step.new.q c.step.ensures.question c.self.inside.st.now c.self.inside.members.now c.step.new.at
    ∙ ap left_with kept ∙ c.self.view_is) c.step.ensures.same
