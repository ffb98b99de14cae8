-- Hexadecimal digits that are read one by one, as they are written.
use Rattle.std.proofs.Common.{◌≡◌, ℕ, ◌+◌, ◌*◌, ◌/◌, ◌%◌, ◌<◌, List, [], ◌∷◌, ◌++◌, length, take, get_or}
use Rattle.std.proofs.Common.{refl, sym, ap, ◌∙◌, arith, add-one}
use Rattle.std.proofs.lemmas.List.{take_more}
use Rattle.model_text.specs.Hex.{hex, hex_digit, hex_set}

-- one digit more
hex_more : (k v d : ℕ) → d < 16 → hex (k + 1) (16 * v + d) ≡ hex k v ++ hex_digit d ∷ []
hex_more k v d low =
    let front : (16 * v + d) / 16 ≡ v = omega arith in
    let last : (16 * v + d) % 16 ≡ d = omega arith in
    rw (add-one, front, last) refl

pub hex_read_more : (digits : List ℕ) (i number value digit : ℕ) → i < length digits → take i digits ≡ hex i number
    → get_or digits i 0 ≡ hex_digit digit → value ≡ digit → digit < 16 → take (i + 1) digits ≡ hex (i + 1) (16 * number + value)
hex_read_more digits i number value digit within before here same low =
    rw same
    (take_more digits i 0 within ∙ ap (λ (t : List ℕ). t ++ get_or digits i 0 ∷ []) before ∙ ap (λ (d : ℕ). hex i number ++ d ∷ []) here
    ∙ sym (hex_more i number digit low))

-- a set of 16 digits
pub hex_taken : (text digits rest : List ℕ) (bits : ℕ) → text ≡ digits ++ rest → digits ≡ hex 16 bits → text ≡ hex_set bits ++ rest
unfolding hex_set
hex_taken text digits rest bits is written = is ∙ ap (λ (t : List ℕ). t ++ rest) written
