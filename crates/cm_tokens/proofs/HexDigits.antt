-- Hexadecimal digits written from the last to the first.
use Rattle.std.proofs.Common.{◌≡◌, ℕ, ◌+◌, ◌-◌, ◌/◌, ◌%◌, ◌<◌, ◌≤◌, List, [], ◌∷◌, ◌++◌, length, drop, set, codes}
use Rattle.std.proofs.Common.{refl, sym, ap, ◌∙◌, arith, append_assoc, add-one, le_of_eq}
use Rattle.std.proofs.lemmas.List.{drop-set, drop_all}
use Rattle.cm_base.specs.CapSet.{full}
use Rattle.model_text.specs.Hex.{hex, hex_digit, hex_set}

-- so many digits that are still to be written, and the buffer from there on
unfoldable pub digits_upto : ℕ → ℕ → List ℕ → List ℕ
digits_upto at left xs = hex at left ++ drop at xs

-- none is written yet
pub digits_upto-start : (n : ℕ) (xs : List ℕ) → length xs ≡ 16 → digits_upto 16 n xs ≡ hex_set n
unfolding digits_upto hex_set
digits_upto-start n xs long = ap (λ t. hex 16 n ++ t) (drop_all 16 xs (le_of_eq long))

-- one digit more is written
pub digits_upto-step : (at left : ℕ) (xs : List ℕ) → at < length xs
    → digits_upto at (left / 16) (set xs at (hex_digit (left % 16))) ≡ digits_upto (at + 1) left xs
unfolding digits_upto
digits_upto-step at left xs within =
    let digit : ℕ = hex_digit (left % 16) in
    ap (λ t. hex at (left / 16) ++ t) (drop-set xs at digit within)
    ∙ sym (append_assoc (hex at (left / 16)) (digit ∷ []) (drop (at + 1) xs))
    ∙ ap (λ k. hex k left ++ drop (at + 1) xs) (sym (add-one at))

-- the same, counted down
pub digits_upto-down : (at left : ℕ) (xs : List ℕ) → 0 < at → at ≤ length xs
    → digits_upto (at - 1) (left / 16) (set xs (at - 1) (hex_digit (left % 16))) ≡ digits_upto at left xs
digits_upto-down at left xs some within =
    let same : at - 1 + 1 ≡ at = omega arith in
    digits_upto-step (at - 1) left xs (omega arith) ∙ ap (λ k. digits_upto k left xs) same

-- all are written
pub digits_upto-end : (left : ℕ) (xs : List ℕ) → digits_upto 0 left xs ≡ xs
unfolding digits_upto
digits_upto-end left xs = refl

-- the digits of the empty set
pub hex_set_none : hex_set 0 ≡ codes "0000000000000000"
unfolding hex_set
hex_set_none = refl

-- the digits of the set of all
pub hex_set_full : hex_set full ≡ codes "000001ffffffffff"
unfolding hex_set
hex_set_full = refl
