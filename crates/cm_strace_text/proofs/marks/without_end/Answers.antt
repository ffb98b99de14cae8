use Rattle.std.proofs.Common.{◌≡◌, ◌<◌, ◌-◌, ◌∙◌, ℕ, false, ap, arith, get_or, sym, take}
use Rattle.cm_strace_text.proofs.Cuts.{blanks_begin}
use Rattle.cm_strace_text.proofs.marks.without_end.Goals.{then-loop-end-test+else-is_blank, else-loop-end-test}
use Rattle.cm_strace_text.proofs.marks.without_end.Goals as goal
use Rattle.model_text.specs.Cut.{is_blank}

pub returns : goal.returns
returns c =
    let text = c.args.text.now in
    let end : ℕ = c.loop-end.end in
    let before : 0 < end → is_blank (get_or text (end - 1) 0) ≡ false =
    elim c.loop-end-test.branch [
      | then-loop-end-test+else-is_blank w ↦ λ some. sym w.if-is_blank.ensures
      | else-loop-end-test w ↦ λ some. absurd (omega arith)
    ] in
    c.split_at.ensures.front
    ∙ ap (λ (n : ℕ). take n text)
    (blanks_begin text end c.loop-end.invariant.within c.loop-end.invariant.blanks before)
