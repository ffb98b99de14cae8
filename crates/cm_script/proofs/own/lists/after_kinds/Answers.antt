use Rattle.std.proofs.Common.{sym, ◌∙◌}
use Rattle.cm_script.proofs.OwnArguments.{all_taken, kind_passed, kind_taken}
use Rattle.cm_script.proofs.own.lists.after_kinds.Goals as goal
use Rattle.cm_script.proofs.own.lists.after_kinds.Goals.{then-not-permits+in_ok-rest, else-not-permits}

pub loop-kind-init : goal.loop-kind-init
loop-kind-init c = λ w end more. more

pub loop-kind-preserved : goal.loop-kind-preserved
loop-kind-preserved c = λ w end more.
    let f = c.args.filter in
    elim c.if-not-permits.branch [
      | then-not-permits+in_ok-rest b ↦
          c.loop-kind.invariant w end
          (kind_taken w f c.all-kinds.result.now c.loop-kind.kind-index _ c.loop-kind.rest.now b.in_ok-rest.rest.now end
          c.loop-kind-test.true (sym c.permits.ensures ∙ b.if-not-permits.true) (b.in_ok-rest.ensures w) (rw b.rest-is at more))
      | else-not-permits b ↦
          c.loop-kind.invariant w end
          (kind_passed w f c.all-kinds.result.now c.loop-kind.kind-index _ c.loop-kind.rest.now end
          c.loop-kind-test.true (sym c.permits.ensures ∙ b.if-not-permits.false) (rw b.rest-is at more))
    ]

pub returns : goal.returns
returns c = λ w.
    all_taken w c.args.filter c.all-kinds.result.now c.loop-kind.kind-index c.args.text.now c.loop-kind.rest.now
    c.loop-kind-test.false c.all-kinds.ensures (c.loop-kind.invariant w)
