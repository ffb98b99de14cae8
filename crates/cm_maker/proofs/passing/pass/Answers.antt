use Rattle.std.proofs.Common.{◌∙◌, length, sym, ap, arith}
use Rattle.std.proofs.lemmas.Bool.{false≢true}
use Rattle.cm_maker.proofs.Looks.{emptied_next, empty_next, passes_more, passes_same}
use Rattle.cm_maker.proofs.Widenings.{low_kept}
use Rattle.cm_maker.proofs.passing.pass.Goals as goal
use Rattle.model_cred.specs.Process.{State}
use Rattle.cm_maker.proofs.passing.pass.Goals.{then-holds+in_ok-look+then-branch, then-holds+in_ok-look+else-branch, else-holds}

pub loop-row-preserved : goal.loop-row-preserved
loop-row-preserved c =
    let before = c.loop-row.invariant in
    let count = ap (λ (state : State). length state.spaces) c.st.view_is in
    elim c.if-holds.branch [
      | then-holds+in_ok-look+then-branch w ↦
          rw (w.waiting-is, w.bounds-is, w.more-is) (record {
            low = low_kept w.in_ok-look.ensures.passes.widens before.low;
            passes = passes_more before.passes w.in_ok-look.ensures.passes w.if-branch.true;
            empty = λ wrong. absurd (false≢true (sym wrong));
          })
      | then-holds+in_ok-look+else-branch w ↦
          rw (w.waiting-is, w.bounds-is, w.more-is) (record {
            low = low_kept w.in_ok-look.ensures.passes.widens before.low;
            passes = passes_same before.passes w.in_ok-look.ensures.passes;
            empty = λ none.
                emptied_next c.loop-row.waiting w.look.new.waiting c.loop-row.row (w.in_ok-look.ensures.taken w.if-branch.false)
                (omega (arith, count, before.passes.list, c.requires.waits.list)) (before.empty none);
          })
      | else-holds w ↦
          rw (w.waiting-is, w.bounds-is, w.more-is) (record {
            low = before.low;
            passes = before.passes;
            empty = λ none. empty_next c.loop-row.waiting c.loop-row.row (sym c.holds.ensures ∙ w.if-holds.false) (before.empty none);
          })
    ]
