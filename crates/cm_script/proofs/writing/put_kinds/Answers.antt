use Rattle.std.proofs.Common.{◌∙◌, sym}
use Rattle.cm_declared.specs.World.{world_of}
use Rattle.cm_script.proofs.Putting.{kinds_put, name_passed, name_put}
use Rattle.cm_script.proofs.writing.put_kinds.Goals as goal
use Rattle.cm_script.proofs.writing.put_kinds.Goals.{then-not-permits+in_ok-put_name, else-not-permits}

pub loop-kind-preserved : goal.loop-kind-preserved
loop-kind-preserved c =
    let w = world_of c.args.w.now in
    let f = c.args.filter in
    elim c.if-not-permits.branch [
      | then-not-permits+in_ok-put_name b ↦
          rw b.text-is
          (name_put w f c.all-kinds.result.now c.loop-kind.kind-index _ c.loop-kind.text.items b.put_name.new.text.items
          c.loop-kind-test.true (sym c.permits.ensures ∙ b.if-not-permits.true) b.in_ok-put_name.ensures ∙ c.loop-kind.invariant)
      | else-not-permits b ↦
          rw b.text-is
          (name_passed w f c.all-kinds.result.now c.loop-kind.kind-index _ c.loop-kind.text.items
          c.loop-kind-test.true (sym c.permits.ensures ∙ b.if-not-permits.false) ∙ c.loop-kind.invariant)
    ]

pub returns : goal.returns
returns c =
    kinds_put (world_of c.args.w.now) c.args.filter c.all-kinds.result.now c.loop-kind.kind-index c.args.text.now.items
    c.loop-kind.text.items c.loop-kind-test.false c.all-kinds.ensures c.loop-kind.invariant
