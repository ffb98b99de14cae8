-- The first place of a mark in a text.
use Rattle.std.proofs.Common.{◌≡◌, ℕ, ◌+◌, ◌<◌, ◌++◌, List, [], ◌∷◌, length, take, drop, get_or, Option, Some, None}
use Rattle.std.proofs.Common.{refl, ap, sym, ◌∙◌, append_assoc, append-nil, inl, inr}
use Rattle.std.proofs.lemmas.Bool.{cases_Bool}
use Rattle.std.proofs.lemmas.List.{take_more, drop_more}
use Rattle.std.proofs.lemmas.Option.{none-some, same_Some}
use Rattle.std.specs.Prelude.{option_map, nat_eq}
use Rattle.std.specs.List.{starts_with}
use Rattle.model_strace.specs.Marks.{cut_at, after_mark, after_byte}

-- these bytes before the sides of a cut
abbrev pub sides_after : List ℕ → Option (List ℕ × List ℕ) → Option (List ℕ × List ℕ)
sides_after front cut = option_map (λ sides. (front ++ sides.0, sides.1)) cut

-- one byte more before the sides of a cut
byte_more : (front : List ℕ) (byte : ℕ) (cut : Option (List ℕ × List ℕ))
    → sides_after (front ++ byte ∷ []) cut ≡ sides_after front (option_map (after_byte byte) cut)
byte_more front byte None = refl
byte_more front byte (Some sides) =
    ap (λ (before : List ℕ). Some (before, sides.1)) (append_assoc front (byte ∷ []) sides.0)

-- a text without the mark at its front is cut where it is cut after its first byte
not_first : (mark front : List ℕ) (byte : ℕ) (text : List ℕ) → after_mark mark (byte ∷ text) ≡ None
    → sides_after (front ++ byte ∷ []) (cut_at mark text) ≡ sides_after front (cut_at mark (byte ∷ text))
not_first mark front byte text none =
    elim (cases_Bool (starts_with nat_eq (byte ∷ text) mark)) [
      | inl here ↦ absurd (none-some _ (sym (rw here at none)))
      | inr later ↦ rw later (byte_more front byte (cut_at mark text))
    ]

-- a text with the mark at its front is cut there
first : (mark front : List ℕ) (byte : ℕ) (text after : List ℕ) → after_mark mark (byte ∷ text) ≡ Some after
    → sides_after front (cut_at mark (byte ∷ text)) ≡ Some (front, after)
first mark front byte text after is =
    elim (cases_Bool (starts_with nat_eq (byte ∷ text) mark)) [
      | inl here ↦
          rw (here, append-nil front) (ap (λ (rest : List ℕ). Some (front, rest)) (same_Some _ _ (rw here at is)))
      | inr later ↦ absurd (none-some _ (rw later at is))
    ]

-- no mark begins at that place
pub later : (mark text : List ℕ) (at : ℕ) → at < length text → after_mark mark (drop at text) ≡ None
    → sides_after (take (at + 1) text) (cut_at mark (drop (at + 1) text))
    ≡ sides_after (take at text) (cut_at mark (drop at text))
later mark text at within none =
    let rest = drop_more text at 0 within in
    ap (λ (front : List ℕ). sides_after front (cut_at mark (drop (at + 1) text))) (take_more text at 0 within)
    ∙ not_first mark (take at text) (get_or text at 0) (drop (at + 1) text) (sym (ap (after_mark mark) rest) ∙ none)
    ∙ ap (λ (left : List ℕ). sides_after (take at text) (cut_at mark left)) (sym rest)

-- the mark begins at that place
pub here : (mark text : List ℕ) (at : ℕ) (after : List ℕ) → at < length text
    → after_mark mark (drop at text) ≡ Some after
    → sides_after (take at text) (cut_at mark (drop at text)) ≡ Some (take at text, after)
here mark text at after within is =
    let rest = drop_more text at 0 within in
    ap (λ (left : List ℕ). sides_after (take at text) (cut_at mark left)) rest
    ∙ first mark (take at text) (get_or text at 0) (drop (at + 1) text) after (sym (ap (after_mark mark) rest) ∙ is)
