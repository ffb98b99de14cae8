use Rattle.std.proofs.Common.{◌≡◌, ℕ, false, None, Some, sym, ◌∙◌, arith, subst}
use Rattle.cm_machine.proofs.Families.{leads_next, leads_same, leads_far, ends_reaches, mark_at, unmarked}
use Rattle.cm_machine.proofs.family.look.Goals as goal
use Rattle.cm_state.specs.Places.{pid_at}
use Rattle.model_run.specs.Family.{reaches_within}

pub returns-in-Some : goal.returns-in-Some
returns-in-Some c root are =
    let held = mark_at c.args.state.now root c.args.marks.now c.loop-step.here (Some c.in-Some.reached) are c.loop-step.invariant.within (sym c.in-Some.is) in
    sym held ∙ sym (leads_same c.args.state.now root (pid_at c.args.state.now.processes c.args.at)
    (pid_at c.args.state.now.processes c.loop-step.here) c.loop-step._step
    are.alive (c.loop-step.invariant.leads root are))

pub returns-in_default-forebear_place : goal.returns-in_default-forebear_place
returns-in_default-forebear_place c root are =
    let apart = mark_at c.args.state.now root c.args.marks.now c.loop-step.here None are c.loop-step.invariant.within (unmarked _ c.in_default.not-Some) in
    sym (leads_same c.args.state.now root (pid_at c.args.state.now.processes c.args.at) (pid_at c.args.state.now.processes c.loop-step.here) c.loop-step._step
    are.alive (c.loop-step.invariant.leads root are)
    ∙ ends_reaches c.args.state.now root (pid_at c.args.state.now.processes c.loop-step.here) are.alive apart c.in_default-forebear_place.ensures.none)

pub loop-step-preserved : goal.loop-step-preserved
loop-step-preserved c = record {
  within = c.in-Some-forebear_place.ensures.found.0;
  leads = λ root are. leads_next c.args.state.now root (pid_at c.args.state.now.processes c.args.at) (pid_at c.args.state.now.processes c.loop-step.here)
      (pid_at c.args.state.now.processes c.in-Some-forebear_place.next) c.loop-step._step (c.loop-step.invariant.leads root are)
      (mark_at c.args.state.now root c.args.marks.now c.loop-step.here None are c.loop-step.invariant.within
      (unmarked _ c.in_default.not-Some)) c.in-Some-forebear_place.ensures.found.1;
  far = λ root are n is.
      let same : c.loop-step._step ≡ n = omega arith in
      subst (λ (k : ℕ). reaches_within k c.args.state.now root (Some (pid_at c.args.state.now.processes c.args.at)) ≡ false) same
      (leads_far c.args.state.now root (pid_at c.args.state.now.processes c.args.at) (pid_at c.args.state.now.processes c.loop-step.here) c.loop-step._step
      (c.loop-step.invariant.leads root are)
      (mark_at c.args.state.now root c.args.marks.now c.loop-step.here None are c.loop-step.invariant.within (unmarked _ c.in_default.not-Some)));
}
