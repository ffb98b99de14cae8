use Rattle.std.proofs.Common.{◌∷◌, ◌++◌, ◌<◌, [], Bool, ℕ, length, sym, ◌∙◌, ap, arith}
use Rattle.cm_machine.proofs.Families.{family_with, family_without}
use Rattle.cm_machine.proofs.family.collect.Goals as goal
use Rattle.cm_machine.proofs.family.collect.Goals.{then-mark+in_ok-push, else-mark}
use Rattle.model_run.specs.Family.{reaches}

pub loop-at-preserved : goal.loop-at-preserved
loop-at-preserved c =
    let reaching : ℕ → ℕ → Bool = λ root. reaches c.args.state.now root in
    let within : c.loop-at.at < length c.args.state.now.processes = omega arith in
    record {
      count = c.mark.auto.marks ∙ c.loop-at.invariant.count;
      marks = λ root are. c.mark.ensures.marks root (c.loop-at.invariant.marks root are);
      pids = λ root are.
          let reached = c.mark.ensures.reached root (c.loop-at.invariant.marks root are) in
          elim c.if-mark.branch [
            | then-mark+in_ok-push w ↦
                ap (λ pids. pids.items) w.pids-is ∙ w.in_ok-push.ensures.items
                ∙ ap (λ (n : ℕ). c.loop-at.pids.items ++ n ∷ []) w.pid_there.ensures
                ∙ family_with (reaching root) c.args.state.now.processes c.loop-at.at c.loop-at.pids.items within
                (sym reached ∙ w.if-mark.true) (c.loop-at.invariant.pids root are)
            | else-mark w ↦
                ap (λ pids. pids.items) w.pids-is
                ∙ family_without (reaching root) c.args.state.now.processes c.loop-at.at c.loop-at.pids.items within
                (sym reached ∙ w.if-mark.false) (c.loop-at.invariant.pids root are)
          ];
    }
