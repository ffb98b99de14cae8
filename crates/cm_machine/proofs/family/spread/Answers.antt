use Rattle.std.proofs.Common.{None, Some, sym, ◌∙◌}
use Rattle.std.proofs.lemmas.List.{length-set}
use Rattle.cm_machine.proofs.Families.{forebear_same, mark_at, marks_with, unmarked_is}
use Rattle.cm_machine.proofs.family.spread.Goals as goal
use Rattle.cm_state.specs.Places.{pid_at}

pub returns-in_default : goal.returns-in_default
returns-in_default c root are is =
    marks_with c.args.state.now root c.loop-step.marks c.loop-step.here (Some c.args.reached)
    (c.loop-step.invariant.marks root are is) c.loop-step.invariant.within
    (sym (c.loop-step.invariant.same root are is))

pub loop-step-preserved : goal.loop-step-preserved
loop-step-preserved c = record {
  within = c.in-Some.ensures.found.0;
  count = length-set c.loop-step.marks c.loop-step.here (Some c.args.reached) ∙ c.loop-step.invariant.count;
  marks = λ root are is. marks_with c.args.state.now root c.loop-step.marks c.loop-step.here (Some c.args.reached) (c.loop-step.invariant.marks root are is)
      c.loop-step.invariant.within (sym (c.loop-step.invariant.same root are is));
  same = λ root are is.
      let marks = c.loop-step.invariant.marks root are is in
      let apart = mark_at c.args.state.now root c.loop-step.marks c.loop-step.here None marks c.loop-step.invariant.within
      (unmarked_is _ c.if-is_some.ensures) in
      c.loop-step.invariant.same root are is
      ∙ forebear_same c.args.state.now root (pid_at c.args.state.now.processes c.loop-step.here)
      (pid_at c.args.state.now.processes c.in-Some.next) are.alive apart
      c.in-Some.ensures.found.1;
}
