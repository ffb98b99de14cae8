use Rattle.std.proofs.Common.{List, ℕ, Some, ap, sym, ◌∙◌}
use Rattle.cm_strace_text.proofs.MarkPlaces.{here, later}
use Rattle.cm_strace_text.proofs.marks.cut_at.Goals as goal
use Rattle.model_strace.specs.Marks.{after_mark}

pub returns-in-Some : goal.returns-in-Some
returns-in-Some c =
    let mark = c.args.mark.now in
    let after = c.in-Some.after.now in
    let is = sym (c.in-Some.ensures ∙ ap (after_mark mark) c.split_at.ensures.back) in
    ap (λ (front : List ℕ). Some (front, after)) c.split_at.ensures.front
    ∙ sym (here mark c.args.text.now c.loop-at.at after c.loop-at-test.true is) ∙ c.loop-at.invariant

pub loop-at-preserved : goal.loop-at-preserved
loop-at-preserved c =
    let mark = c.args.mark.now in
    let none = sym (c.in_default.ensures ∙ ap (after_mark mark) c.split_at.ensures.back) in
    later mark c.args.text.now c.loop-at.at c.loop-at-test.true none ∙ c.loop-at.invariant
