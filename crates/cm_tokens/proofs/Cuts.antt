-- Texts that are cut into pieces at a byte.
use Rattle.std.proofs.Common.{◌≡◌, ℕ, ◌+◌, ◌-◌, ◌<◌, ◌≤◌, ◌==◌, List, [], ◌∷◌, length, take, drop, Bool}
use Rattle.std.proofs.Common.{true, false, cond, Some, None, refl, le_refl, arith}
use Rattle.std.proofs.lemmas.List.{take_all, length-drop}
use Rattle.std.proofs.lemmas.Bool.{ltb-true, ltb-false}
use Rattle.std.proofs.Math.Dec.{ltb}
use Rattle.std.proofs.lemmas.List.Splits.{slice_split_none, slice_split_first}
use Rattle.std.proofs.lemmas.List.Sums.{fails_before_first}
use Rattle.std.specs.List.{position, position_or_len, slice_split}

-- what `position` tells of the first place that passes
place_found : (place count place' : ℕ) (b : Bool) → ltb place count ≡ b → cond b (Some place) None ≡ Some place' → (place < count) × (place ≡ place')
place_found place count place' true e is = (ltb-true place count e, cc)
place_found place count place' false e is = absurd cc

no_place : (place count : ℕ) (b : Bool) → ltb place count ≡ b → cond b (Some place) None ≡ None → count ≤ place
no_place place count true e is = absurd cc
no_place place count false e is = ltb-false place count e

-- what stands after a place, as a slice of the text
rest_of : (text : List ℕ) (place : ℕ) → take (length text - place) (drop place text) ≡ drop place text
rest_of text place = take_all (length text - place) (drop place text) (rw (length-drop place text) (le_refl (length text - place)))

-- a text with the mark is what stands before the first one, and the parts of what stands after it
pub cut_at_mark : (mark : ℕ) (text : List ℕ) (place' : ℕ) → position (λ byte. byte == mark) text ≡ Some place'
    → slice_split (λ byte. byte == mark) text
    ≡ take place' text ∷ slice_split (λ byte. byte == mark) (take (length text - (place' + 1)) (drop (place' + 1) text))
cut_at_mark mark text place' is =
    let (within, same) = place_found (position_or_len (λ byte. byte == mark) text) (length text) place'
    (ltb (position_or_len (λ byte. byte == mark) text) (length text)) refl is in
    rw (rest_of text (place' + 1), ← same) (slice_split_first (λ byte. byte == mark) text 0 within)

-- a text without the mark is one part
pub cut_nowhere : (mark : ℕ) (text : List ℕ) → position (λ byte. byte == mark) text ≡ None → slice_split (λ byte. byte == mark) text ≡ text ∷ []
cut_nowhere mark text is =
    let end : length text ≤ position_or_len (λ byte. byte == mark) text
    = no_place (position_or_len (λ byte. byte == mark) text) (length text)
    (ltb (position_or_len (λ byte. byte == mark) text) (length text)) refl is in
    slice_split_none (λ byte. byte == mark) text (λ k d within. fails_before_first (λ byte. byte == mark) text k d (omega (arith, within, end)))
