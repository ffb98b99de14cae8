-- Where quoted texts end, place by place, and what stands after them for those who read calls and arguments.
use Rattle.std.proofs.Common.{◌≡◌, ◌≢◌, ◌∙◌, ◌<◌, ◌≤◌, ◌+◌, ◌==◌, ℕ, suc, Bool, true, false, List, [], ◌∷◌, None, refl}
use Rattle.std.proofs.Common.{ap, sym, arith, inl, inr, get_or, length, drop, if◌then◌else◌}
use Rattle.std.proofs.lemmas.Bool.{cases_Bool, cond-true, cond-false, eq-eqb, ne_eqb}
use Rattle.std.proofs.lemmas.List.{drop_more, drop_all, drop-drop}
use Rattle.std.specs.Option.{option_or}
use Rattle.model_rules.proofs.Options.{or_none}
use Rattle.cm_strace_text.proofs.Runs.{same_along}
use Rattle.cm_strace_text.specs.Depths.{len_to}
use Rattle.cm_strace_text.specs.Places.{quote_len, quote_end, sign_from}
use Rattle.model_strace.specs.Written.{Place, Plain, Quoted, Escaped, Depth, Open, InQuotes, InEscape, last_sign}

-- ---- place by place
-- the text's end
pub quote_left : (text : List ℕ) (at : ℕ) → length text ≤ at → quote_end at text ≡ at
unfolding quote_end
quote_left text at ends =
    let none : quote_len false (drop at text) ≡ 0 = ap (quote_len false) (drop_all at text ends) in
    let same : at + quote_len false (drop at text) ≡ at = omega (arith, none) in same

-- a quote
pub quote_stands : (text : List ℕ) (at : ℕ) → at < length text → get_or text at 0 ≡ 34 → quote_end at text ≡ at + 1
unfolding quote_end
quote_stands text at below is =
    let byte : ℕ = get_or text at 0 in
    let one : quote_len false (drop at text) ≡ 1 =
    ap (quote_len false) (drop_more text at 0 below)
    ∙ cond-true (byte == 34) 1 (1 + quote_len (byte == 92) (drop (at + 1) text)) (eq-eqb byte 34 is) in
    let same : at + quote_len false (drop at text) ≡ at + 1 = omega (arith, one) in same

-- another byte that is no backslash
quote_passes : (text : List ℕ) (at : ℕ) → at < length text → get_or text at 0 ≢ 34 → get_or text at 0 ≢ 92
    → quote_end at text ≡ quote_end (at + 1) text
unfolding quote_end
quote_passes text at below quote slash =
    let byte : ℕ = get_or text at 0 in
    let rest : List ℕ = drop (at + 1) text in
    let step : quote_len false (drop at text) ≡ 1 + quote_len false rest =
    ap (quote_len false) (drop_more text at 0 below)
    ∙ cond-false (byte == 34) 1 (1 + quote_len (byte == 92) rest) (ne_eqb byte 34 quote)
    ∙ ap (λ (escaped : Bool). 1 + quote_len escaped rest) (ne_eqb byte 92 slash) in
    let same : at + quote_len false (drop at text) ≡ at + 1 + quote_len false rest = omega (arith, step) in same

-- so many of them
pub quote_run : (text : List ℕ) (from to : ℕ) → from ≤ to → to ≤ length text
    → ((k : ℕ) → from ≤ k → k < to → (get_or text k 0 ≢ 34) × (get_or text k 0 ≢ 92))
    → quote_end from text ≡ quote_end to text
quote_run text from to up within none =
    same_along (λ (at : ℕ). quote_end at text) from to up
    (λ k low below. let other = none k low below in quote_passes text k (omega arith) other.0 other.1)

-- a backslash
slash_stands : (text : List ℕ) (at : ℕ) → at < length text → get_or text at 0 ≡ 92
    → quote_len false (drop at text) ≡ 1 + quote_len true (drop (at + 1) text)
slash_stands text at below is =
    let byte : ℕ = get_or text at 0 in
    let rest : List ℕ = drop (at + 1) text in
    ap (quote_len false) (drop_more text at 0 below)
    ∙ cond-false (byte == 34) 1 (1 + quote_len (byte == 92) rest) (ne_eqb byte 34 (λ same. omega (arith, is, same)))
    ∙ ap (λ (escaped : Bool). 1 + quote_len escaped rest) (eq-eqb byte 92 is)

-- a backslash, and a byte after it
pub escape_stands : (text : List ℕ) (at : ℕ) → at < length text → at + 1 < length text → get_or text at 0 ≡ 92
    → quote_end at text ≡ quote_end (at + 2) text
unfolding quote_end
escape_stands text at below inside is =
    let slash = slash_stands text at below is in
    let two : at + 1 + 1 ≡ at + 2 = omega arith in
    let escaped : quote_len true (drop (at + 1) text) ≡ 1 + quote_len false (drop (at + 1 + 1) text) =
    ap (quote_len true) (drop_more text (at + 1) 0 inside) in
    let place = ap (λ (n : ℕ). quote_len false (drop n text)) two in
    let same : at + quote_len false (drop at text) ≡ at + 2 + quote_len false (drop (at + 2) text) =
    omega (arith, slash, escaped, place) in same

-- a backslash at the text's end
pub slash_ends : (text : List ℕ) (at : ℕ) → at < length text → length text ≤ at + 1 → get_or text at 0 ≡ 92
    → quote_end at text ≡ quote_end (at + 1) text
unfolding quote_end
slash_ends text at below ends is =
    let slash = slash_stands text at below is in
    let escaped : quote_len true (drop (at + 1) text) ≡ 0 = ap (quote_len true) (drop_all (at + 1) text ends) in
    let plain : quote_len false (drop (at + 1) text) ≡ 0 = ap (quote_len false) (drop_all (at + 1) text ends) in
    let same : at + quote_len false (drop at text) ≡ at + 1 + quote_len false (drop (at + 1) text) =
    omega (arith, slash, escaped, plain) in same

-- ---- what stands after them
-- a sign is looked for after one byte more
sign_after_byte : (place : Place) (at n byte : ℕ) (text : List ℕ)
    → last_sign place (at + 1) text ≡ last_sign Plain (at + 1 + n) (drop n text)
    → option_or (last_sign place (at + 1) text) None ≡ last_sign Plain (at + (1 + n)) (drop (1 + n) (byte ∷ text))
sign_after_byte place at n byte text is =
    let more : suc n ≡ 1 + n = omega arith in
    let same : at + 1 + n ≡ at + (1 + n) = omega arith in
    or_none (last_sign place (at + 1) text)
    ∙ is
    ∙ ap (λ (k : ℕ). last_sign Plain k (drop n text)) same
    ∙ ap (λ (k : ℕ). last_sign Plain (at + (1 + n)) (drop k (byte ∷ text))) more

-- the last sign in a text that goes on in quotes is the last one after these
sign_after_quote : (escaped : Bool) (at : ℕ) (text : List ℕ)
    → last_sign (if escaped then Escaped else Quoted) at text
    ≡ last_sign Plain (at + quote_len escaped text) (drop (quote_len escaped text) text)
sign_after_quote escaped at [] = refl
sign_after_quote true at (byte ∷ text) =
    sign_after_byte Quoted at (quote_len false text) byte text (sign_after_quote false (at + 1) text)
sign_after_quote false at (byte ∷ text) =
    elim (cases_Bool (byte == 34)) [
      | inl quote ↦ rw quote (or_none (last_sign Plain (at + 1) text))
      | inr other ↦ rw other (sign_after_byte (if byte == 92 then Escaped else Quoted) at (quote_len (byte == 92) text) byte
          text (sign_after_quote (byte == 92) (at + 1) text))
    ]

-- the same from a place on
pub quote_signs : (text : List ℕ) (from to : ℕ) → to ≡ quote_end from text → sign_from Quoted from text ≡ sign_from Plain to text
unfolding quote_end
quote_signs text from to is =
    let rest : List ℕ = drop from text in
    let n : ℕ = quote_len false rest in
    let place : from + n ≡ to = sym is in
    sign_after_quote false from rest
    ∙ ap (last_sign Plain (from + n)) (drop-drop n from text)
    ∙ ap (λ (k : ℕ). sign_from Plain k text) place

-- a reader of arguments goes on after one byte more
len_after_byte : (ends : ℕ → Bool) (depth : ℕ) (place : Depth) (n byte : ℕ) (text : List ℕ)
    → len_to ends place text ≡ n + len_to ends (Open depth) (drop n text)
    → 1 + len_to ends place text ≡ 1 + n + len_to ends (Open depth) (drop (1 + n) (byte ∷ text))
len_after_byte ends depth place n byte text is =
    let more : suc n ≡ 1 + n = omega arith in
    let same : len_to ends (Open depth) (drop n text) ≡ len_to ends (Open depth) (drop (1 + n) (byte ∷ text)) =
    ap (λ (k : ℕ). len_to ends (Open depth) (drop k (byte ∷ text))) more in
    omega (arith, is, same)

-- an end that is looked for in quotes is the first one after these
pub len_after_quote : (ends : ℕ → Bool) (depth : ℕ) (escaped : Bool) (text : List ℕ)
    → len_to ends (if escaped then InEscape depth else InQuotes depth) text
    ≡ quote_len escaped text + len_to ends (Open depth) (drop (quote_len escaped text) text)
len_after_quote ends depth escaped [] = refl
len_after_quote ends depth true (byte ∷ text) =
    len_after_byte ends depth (InQuotes depth) (quote_len false text) byte text (len_after_quote ends depth false text)
len_after_quote ends depth false (byte ∷ text) =
    elim (cases_Bool (byte == 34)) [
      | inl quote ↦ rw quote refl
      | inr other ↦ rw other (len_after_byte ends depth (if byte == 92 then InEscape depth else InQuotes depth)
          (quote_len (byte == 92) text) byte text (len_after_quote ends depth (byte == 92) text))
    ]
