use Rattle.std.proofs.Common.{◌≡◌, sym, ◌∙◌, ap, inl, inr, arith}
use Rattle.std.proofs.lemmas.Bool.{cases_lt}
use Rattle.cm_state.proofs.Places.{pid_of_at}
use Rattle.cm_state.specs.Places.{pid_at}
use Rattle.cm_machine.proofs.FreePids.{first_alive, next_free}
use Rattle.cm_machine.proofs.pids.first_gap.Goals as goal
use Rattle.model_cred.specs.Process.{Process}

pub returns-then-number-next-clause-alive : goal.returns-then-number-next-clause-alive
returns-then-number-next-clause-alive c =
    first_alive c.args.list.now c.loop-p.p-index c.loop-p.next c.loop-p.invariant.count c.loop-p.invariant.before
    (omega arith)

pub returns-then-number-next-clause-free : goal.returns-then-number-next-clause-free
returns-then-number-next-clause-free c =
    let here : pid_at c.args.list.now c.loop-p.p-index ≡ c.number.result =
    pid_of_at c.args.list.now c.loop-p.p-index c.p-item.result (omega arith) c.p-item.is
    ∙ ap (λ (p : Process). p.pid) (sym c.p.view_is) ∙ sym c.number.ensures.value in
    next_free c.args.list.now c.loop-p.p-index c.loop-p.next c.loop-p.invariant.count c.requires c.loop-p.invariant.before
    (λ _. (omega (arith, here, c.number.ensures.positive), λ same. c.if-number-next.true (sym here ∙ same)))

pub loop-p-preserved : goal.loop-p-preserved
loop-p-preserved c =
    let here : pid_at c.args.list.now c.loop-p.p-index ≡ c.number.result =
    pid_of_at c.args.list.now c.loop-p.p-index c.p-item.result (omega arith) c.p-item.is
    ∙ ap (λ (p : Process). p.pid) (sym c.p.view_is) ∙ sym c.number.ensures.value in
    record {
      count = omega arith;
      before = λ k lt. elim (cases_lt k c.loop-p.p-index) [
        | inl less ↦ c.loop-p.invariant.before k less
        | inr le ↦
            let same : k ≡ c.loop-p.p-index = omega arith in
            ap (pid_at c.args.list.now) same ∙ omega (arith, here, c.if-number-next.false, same)
      ];
    }

pub returns-clause-alive : goal.returns-clause-alive
returns-clause-alive c = first_alive c.args.list.now c.loop-p.p-index c.loop-p.next c.loop-p.invariant.count c.loop-p.invariant.before (omega arith)

pub returns-clause-free : goal.returns-clause-free
returns-clause-free c =
    next_free c.args.list.now c.loop-p.p-index c.loop-p.next c.loop-p.invariant.count c.requires c.loop-p.invariant.before (λ lt. absurd (omega arith))
