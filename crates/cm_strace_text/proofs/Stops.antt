-- A reader of arguments, byte by byte: the bytes that are passed over, those that end a part, and the brackets.
use Rattle.std.proofs.Common.{◌≡◌, ◌∙◌, ◌<◌, ◌≤◌, ◌+◌, ◌-◌, ◌&&◌, ◌||◌, ◌==◌, ℕ, zero, suc, Bool, true, false, List, ◌∷◌}
use Rattle.std.proofs.Common.{refl, ap, sym, arith, get_or, length, drop, if◌then◌else◌}
use Rattle.std.proofs.lemmas.Bool.{cond-true, cond-false, and_right, eq-eqb, ne_eqb, or_parts}
use Rattle.std.proofs.lemmas.List.{drop_more, drop_all, drop-drop}
use Rattle.std.specs.Prelude.{pred}
use Rattle.cm_strace_text.proofs.QuoteEnds.{len_after_quote}
use Rattle.cm_strace_text.specs.Depths.{ends_at, is_stop, len_to}
use Rattle.cm_strace_text.specs.Places.{quote_len, quote_end}
use Rattle.cm_strace_text.specs.declared.arguments.End.{End}
use Rattle.cm_strace_text.specs.declared.arguments.End.TheVariants as end
use Rattle.model_strace.specs.Written.{Depth, Open, InQuotes, depth_after, is_outside, opens, closes}

-- outside of all brackets
outside : (depth : ℕ) → is_outside (Open depth) ≡ (depth == 0)
outside zero = sym (eq-eqb zero 0 refl)
outside (suc depth) = sym (ne_eqb (suc depth) 0 (λ same. omega (arith, same)))

-- a byte that is no comma and closes no bracket is no end
no_end : (which : End) (byte : ℕ) → (byte == 44) ≡ false → closes byte ≡ false → ends_at which byte ≡ false
no_end end.Comma byte comma closing = comma
no_end end.Closing byte comma closing = closing

-- no end at the text's end
pub none_left : (which : End) (depth : ℕ) (text : List ℕ) (at : ℕ) → length text ≤ at
    → len_to (ends_at which) (Open depth) (drop at text) ≡ 0
none_left which depth text at ends = ap (len_to (ends_at which) (Open depth)) (drop_all at text ends)

-- a byte that is an end
pub end_stands : (which : End) (depth : ℕ) (text : List ℕ) (at : ℕ) → at < length text
    → (depth == 0 && ends_at which (get_or text at 0)) ≡ true → len_to (ends_at which) (Open depth) (drop at text) ≡ 0
end_stands which depth text at below here =
    let byte : ℕ = get_or text at 0 in
    ap (len_to (ends_at which) (Open depth)) (drop_more text at 0 below)
    ∙ cond-true (is_outside (Open depth) && ends_at which byte) 0
    (1 + len_to (ends_at which) (depth_after (Open depth) byte) (drop (at + 1) text))
    (ap (λ (b : Bool). b && ends_at which byte) (outside depth) ∙ here)

-- a byte that is none, after which the reader is that deep
pub byte_passes : (which : End) (depth deep : ℕ) (text : List ℕ) (at : ℕ) → at < length text
    → (depth == 0 && ends_at which (get_or text at 0)) ≡ false → depth_after (Open depth) (get_or text at 0) ≡ Open deep
    → at + 1 + len_to (ends_at which) (Open deep) (drop (at + 1) text)
    ≡ at + len_to (ends_at which) (Open depth) (drop at text)
byte_passes which depth deep text at below none after =
    let byte : ℕ = get_or text at 0 in
    let rest : List ℕ = drop (at + 1) text in
    let step : len_to (ends_at which) (Open depth) (drop at text) ≡ 1 + len_to (ends_at which) (Open deep) rest =
    ap (len_to (ends_at which) (Open depth)) (drop_more text at 0 below)
    ∙ cond-false (is_outside (Open depth) && ends_at which byte) 0
    (1 + len_to (ends_at which) (depth_after (Open depth) byte) rest)
    (ap (λ (b : Bool). b && ends_at which byte) (outside depth) ∙ none)
    ∙ ap (λ (place : Depth). 1 + len_to (ends_at which) place rest) after in
    omega (arith, step)

-- a quoted text
pub quote_passes : (which : End) (depth : ℕ) (text : List ℕ) (at to : ℕ) → at < length text → get_or text at 0 ≡ 34
    → to ≡ quote_end (at + 1) text
    → to + len_to (ends_at which) (Open depth) (drop to text) ≡ at + len_to (ends_at which) (Open depth) (drop at text)
unfolding quote_end
quote_passes which depth text at to below is ends =
    let rest : List ℕ = drop (at + 1) text in
    let n : ℕ = quote_len false rest in
    let place : to ≡ at + 1 + n = ends in
    let begins : len_to (ends_at which) (Open depth) (34 ∷ rest) ≡ 1 + len_to (ends_at which) (InQuotes depth) rest =
    cond-false (is_outside (Open depth) && ends_at which 34) 0 (1 + len_to (ends_at which) (InQuotes depth) rest)
    (and_right (is_outside (Open depth)) (ends_at which 34) (no_end which 34 refl refl)) in
    let left : len_to (ends_at which) (Open depth) (drop n rest) ≡ len_to (ends_at which) (Open depth) (drop to text) =
    ap (len_to (ends_at which) (Open depth)) (drop-drop n (at + 1) text)
    ∙ ap (λ (k : ℕ). len_to (ends_at which) (Open depth) (drop k text)) (sym place) in
    let first : len_to (ends_at which) (Open depth) (drop at text) ≡ len_to (ends_at which) (Open depth) (34 ∷ rest) =
    ap (len_to (ends_at which) (Open depth)) (drop_more text at 0 below ∙ ap (λ (byte : ℕ). byte ∷ rest) is) in
    let inside : len_to (ends_at which) (InQuotes depth) rest ≡ n + len_to (ends_at which) (Open depth) (drop n rest) =
    len_after_quote (ends_at which) depth false rest in
    omega (arith, first, begins, inside, left, place)

-- ---- how deep the reader is after a byte in no quotes
-- one less, where there is one
one_less : (depth : ℕ) → pred depth ≡ depth - 1
one_less zero = refl
one_less (suc depth) = omega arith

-- a bracket that opens
pub bracket_opens : (depth byte : ℕ) → opens byte ≡ true → depth_after (Open depth) byte ≡ Open (depth + 1)
bracket_opens depth byte is =
    cond-true (opens byte) (Open (depth + 1))
    (if closes byte then Open (pred depth) else if byte == 34 then InQuotes depth else Open depth) is

-- one that closes
pub bracket_closes : (depth deep byte : ℕ) → opens byte ≡ false → closes byte ≡ true → deep ≡ depth - 1
    → depth_after (Open depth) byte ≡ Open deep
bracket_closes depth deep byte other is less =
    cond-false (opens byte) (Open (depth + 1))
    (if closes byte then Open (pred depth) else if byte == 34 then InQuotes depth else Open depth) other
    ∙ cond-true (closes byte) (Open (pred depth)) (if byte == 34 then InQuotes depth else Open depth) is
    ∙ ap (λ (n : ℕ). Open n) (one_less depth ∙ sym less)

-- no bracket and no quote
pub byte_keeps : (depth byte : ℕ) → opens byte ≡ false → closes byte ≡ false → (byte == 34) ≡ false
    → depth_after (Open depth) byte ≡ Open depth
byte_keeps depth byte opening closing quote =
    cond-false (opens byte) (Open (depth + 1))
    (if closes byte then Open (pred depth) else if byte == 34 then InQuotes depth else Open depth) opening
    ∙ cond-false (closes byte) (Open (pred depth)) (if byte == 34 then InQuotes depth else Open depth) closing
    ∙ cond-false (byte == 34) (InQuotes depth) (Open depth) quote

-- a byte at which the reader doesn't stop
pub calm_passes : (which : End) (depth : ℕ) (text : List ℕ) (at : ℕ) → at < length text → is_stop (get_or text at 0) ≡ false
    → at + 1 + len_to (ends_at which) (Open depth) (drop (at + 1) text)
    ≡ at + len_to (ends_at which) (Open depth) (drop at text)
calm_passes which depth text at below calm =
    let byte : ℕ = get_or text at 0 in
    let three = or_parts (byte == 34 || byte == 44 || opens byte) (closes byte) calm in
    let two = or_parts (byte == 34 || byte == 44) (opens byte) three.0 in
    let one = or_parts (byte == 34) (byte == 44) two.0 in
    byte_passes which depth depth text at below
    (and_right (depth == 0) (ends_at which byte) (no_end which byte one.1 three.1))
    (byte_keeps depth byte two.1 three.1 one.0)
