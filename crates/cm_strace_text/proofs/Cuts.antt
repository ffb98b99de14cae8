-- Texts that are cut at a place: at blanks, before the first byte of a kind.
use Rattle.std.proofs.Common.{◌≡◌, ℕ, zero, suc, ◌+◌, ◌-◌, ◌<◌, ◌≤◌, ◌==◌, ◌&&◌, Bool, true, false, List, [], ◌∷◌}
use Rattle.std.proofs.Common.{length, take, drop, map, refl, ap, sym, ◌∙◌, arith, get_or, inl, inr}
use Rattle.std.proofs.Math.Seq.{take-length}
use Rattle.std.proofs.lemmas.Bool.{cases_Bool, cond-true, eqb-true}
use Rattle.std.proofs.lemmas.List.Folds.{length-prefix_len}
use Rattle.std.proofs.lemmas.List.Sums.{prefix_len_is, suffix_len_is}
use Rattle.std.specs.Prelude.{not}
use Rattle.std.specs.List.{prefix_len, suffix_len}
use Rattle.cm_strace_text.specs.Depths.{ends_at, len_to, parts_after}
use Rattle.cm_strace_text.specs.declared.arguments.End.TheVariants as end
use Rattle.model_strace.specs.Written.{Depth, Open, depth_after, is_outside, closes, comma_parts, before_closing}
use Rattle.model_strace.specs.Marks.{after_first_word, first_word, trimmed, without_front}
use Rattle.model_text.specs.Cut.{is_blank}

-- ---- blanks
-- where blanks alone stand from a place on, and none before it, that place is where they begin
pub blanks_begin : (text : List ℕ) (n : ℕ) → n ≤ length text
    → ((k : ℕ) → n ≤ k → k < length text → is_blank (get_or text k 0) ≡ true)
    → (0 < n → is_blank (get_or text (n - 1) 0) ≡ false) → n ≡ length text - suffix_len is_blank text
blanks_begin text n within blanks before =
    let same : suffix_len is_blank text ≡ length text - n = suffix_len_is is_blank text n 0 within blanks before in
    omega (arith, same, within)

-- no blank
abbrev pub no_blank : ℕ → Bool
no_blank byte = not (is_blank byte)

-- where no blank stands before a place, and one there, the first word has so many bytes
pub word_ends : (text : List ℕ) (n : ℕ) → n ≤ length text → ((k : ℕ) → k < n → is_blank (get_or text k 0) ≡ false)
    → (n < length text → is_blank (get_or text n 0) ≡ true) → prefix_len no_blank text ≡ n
word_ends text n within before there =
    prefix_len_is no_blank text n 0 within (λ k below. ap not (before k below)) (λ inside. ap not (there inside))

-- the bytes that pass a test at the front are as many as they are
pub front_len : (p : ℕ → Bool) (text : List ℕ) → length (take (prefix_len p text) text) ≡ prefix_len p text
front_len p text = length-prefix_len p text

-- the bytes after the first one
pub after_first : (byte : ℕ) (text : List ℕ) → take (length (byte ∷ text) - 1) text ≡ text
after_first byte text = let count : length (byte ∷ text) - 1 ≡ length text = omega arith in rw count (take-length text)

-- a blank at the front: the first word is empty
pub blank_word : (text : List ℕ) → 1 ≤ length text → is_blank (get_or text 0 0) ≡ true → first_word text ≡ []
blank_word [] some blank = absurd (omega (arith, some))
blank_word (byte ∷ text) some blank = let here : is_blank byte ≡ true = blank in rw here refl

-- and what follows it and the blanks stands after the word
pub blank_rest : (text : List ℕ) → 1 ≤ length text → is_blank (get_or text 0 0) ≡ true
    → after_first_word text ≡ without_front (take (length text - 1) (drop 1 text))
blank_rest [] some blank = absurd (omega (arith, some))
blank_rest (byte ∷ text) some blank =
    let here : is_blank byte ≡ true = blank in
    ap (λ (word : List ℕ). without_front (drop (length word) (byte ∷ text))) (blank_word (byte ∷ text) some blank)
    ∙ cond-true (is_blank byte) (without_front text) (byte ∷ text) here
    ∙ ap without_front (sym (after_first byte text))

-- ---- commas and closing brackets
-- a comma leaves a reader outside of all brackets
after_comma : (depth : Depth) (byte : ℕ) → (is_outside depth && byte == 44) ≡ true → depth_after depth byte ≡ Open 0
after_comma (Open zero) byte here = rw (eqb-true byte 44 here) refl
after_comma _ byte here = absurd cc

-- a text is its first part, and the parts after it
pub comma_cut : (depth : Depth) (text : List ℕ)
    → comma_parts depth text
    ≡ take (len_to (ends_at end.Comma) depth text) text ∷ parts_after (drop (len_to (ends_at end.Comma) depth text) text)
comma_cut depth [] = refl
comma_cut depth (byte ∷ text) =
    elim (cases_Bool (is_outside depth && byte == 44)) [
      | inl here ↦ rw (here, after_comma depth byte here) refl
      | inr later ↦
          let more : 1 + len_to (ends_at end.Comma) (depth_after depth byte) text
          ≡ suc (len_to (ends_at end.Comma) (depth_after depth byte) text) = omega arith in
          rw (later, comma_cut (depth_after depth byte) text, more) refl
    ]

-- the arguments in a text are its first part without blanks, and those after it
pub argument_cut : (text part rest : List ℕ) (n : ℕ) → n ≡ len_to (ends_at end.Comma) (Open 0) text
    → part ≡ trimmed (take n text) → rest ≡ drop n text
    → map trimmed (comma_parts (Open 0) text) ≡ part ∷ map trimmed (parts_after rest)
argument_cut text part rest n is front back =
    ap (map trimmed) (comma_cut (Open 0) text)
    ∙ ap (λ (k : ℕ). trimmed (take k text) ∷ map trimmed (parts_after (drop k text))) (sym is)
    ∙ ap (λ (first : List ℕ). first ∷ map trimmed (parts_after (drop n text))) (sym front)
    ∙ ap (λ (later : List ℕ). part ∷ map trimmed (parts_after later)) (sym back)

-- none stand after it where nothing does
pub no_parts : (rest : List ℕ) → length rest ≡ 0 → parts_after rest ≡ []
no_parts [] none = refl
no_parts (byte ∷ rest) none = absurd (omega (arith, none))

-- those after its comma
pub parts_follow : (rest : List ℕ) → 1 ≤ length rest → parts_after rest ≡ comma_parts (Open 0) (take (length rest - 1) (drop 1 rest))
parts_follow [] some = absurd (omega (arith, some))
parts_follow (byte ∷ rest) some = ap (comma_parts (Open 0)) (sym (after_first byte rest))

-- what stands before a closing bracket
pub closing_cut : (depth : Depth) (text : List ℕ) → before_closing depth text ≡ take (len_to (ends_at end.Closing) depth text) text
closing_cut depth [] = refl
closing_cut depth (byte ∷ text) =
    elim (cases_Bool (is_outside depth && closes byte)) [
      | inl here ↦ rw here refl
      | inr later ↦
          let more : 1 + len_to (ends_at end.Closing) (depth_after depth byte) text
          ≡ suc (len_to (ends_at end.Closing) (depth_after depth byte) text) = omega arith in
          rw (later, closing_cut (depth_after depth byte) text, more) refl
    ]
