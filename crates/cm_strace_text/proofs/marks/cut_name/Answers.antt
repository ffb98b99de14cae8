use Rattle.std.proofs.Common.{◌≡◌, ◌∙◌, ℕ, ap, arith, drop, sym, take}
use Rattle.std.proofs.lemmas.List.Sums.{prefix_len-drop_all, prefix_len-drop_no}
use Rattle.std.specs.List.{prefix_len}
use Rattle.cm_strace_text.proofs.Cuts.{front_len}
use Rattle.cm_strace_text.proofs.marks.cut_name.Goals.{then-loop-len-test+else-is_word_byte, else-loop-len-test}
use Rattle.cm_strace_text.proofs.marks.cut_name.Goals as goal
use Rattle.model_strace.specs.Marks.{is_word_byte}

pub returns : goal.returns
returns c =
    let text = c.args.text.now in
    let len : ℕ = c.loop-len.len in
    let ended : prefix_len is_word_byte (drop len text) ≡ 0 =
    elim c.loop-len-test.branch [
      | then-loop-len-test+else-is_word_byte w ↦
          prefix_len-drop_no is_word_byte text len 0 w.loop-len-test.true (sym w.if-is_word_byte.ensures)
      | else-loop-len-test w ↦ prefix_len-drop_all is_word_byte text len w.loop-len-test.false
    ] in
    let same : len ≡ prefix_len is_word_byte text = omega (arith, ended, c.loop-len.invariant.run) in
    record {
      name = c.split_at.ensures.front ∙ ap (λ (n : ℕ). take n text) same;
      rest = c.split_at.ensures.back ∙ ap (λ (n : ℕ). drop n text) (same ∙ sym (front_len is_word_byte text));
    }
