-- Names that end before their texts do.
use Rattle.std.proofs.Common.{◌≡◌, ◌≢◌, ℕ, ◌+◌, ◌-◌, ◌<◌, ◌≤◌, ◌==◌, ◌++◌, ◌∙◌, ap, false, eqb, take, drop, length, List, arith}
use Rattle.std.proofs.lemmas.Bool.{cond-false, eqb-false, ne_eqb}
use Rattle.std.proofs.lemmas.List.{length-drop, take-append-le}
use Rattle.std.proofs.lemmas.List.Folds.{prefix_len-append}
use Rattle.std.specs.List.{prefix_len}
use Rattle.cm_strace_text.proofs.Cuts.{front_len}
use Rattle.model_strace.specs.Marks.{is_word_byte, name_at}

-- a name after which something stands is the same one, whatever comes after the byte that ends it
pub name_stays : (text rest more : List ℕ) → rest ≡ drop (length (name_at text)) text → (length rest == 0) ≡ false
    → name_at (text ++ more) ≡ name_at text
name_stays text rest more is some =
    let n : ℕ = prefix_len is_word_byte text in
    let left : length rest ≡ length text - n =
    ap length is ∙ length-drop (length (name_at text)) text ∙ ap (λ (k : ℕ). length text - k) (front_len is_word_byte text) in
    let others : length rest ≢ 0 = eqb-false (length rest) 0 some in
    let inside : n < length text = omega (arith, left, others) in
    let ended : eqb n (length text) ≡ false = ne_eqb n (length text) (λ h. omega arith) in
    let within : n ≤ length text = omega arith in
    ap (λ k. take k (text ++ more)) (prefix_len-append is_word_byte text more
    ∙ cond-false (eqb n (length text)) (length text + prefix_len is_word_byte more) n ended)
    ∙ take-append-le n text more within
