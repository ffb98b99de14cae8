-- Hexadecimal digits one by one: a number past 32 bits stays past them.
use Rattle.std.proofs.Common.{◌≡◌, ℕ, ◌+◌, ◌*◌, ◌<◌, List, [], ◌∷◌, Some, None, refl, ap, ◌∙◌, arith}
use Rattle.std.proofs.Common.{inl, inr, length, drop, get_or}
use Rattle.std.proofs.lemmas.List.{drop_more}
use Rattle.std.proofs.lemmas.Bool.{cases_Bool}
use Rattle.std.specs.Prelude.{option_and_then, nat_le}
use Rattle.cm_tokens.proofs.Options.{cases_Option}
use Rattle.cm_strace_values.specs.Hex.{of_32_bits, with_digit}
use Rattle.model_text.specs.CapText.{hex_after, hex_value}

-- a number past 32 bits
past_alone : (n : ℕ) → 4294967295 < n → of_32_bits (Some n) ≡ None
past_alone n past = grind (arith, past)

-- a number past 32 bits, and digits after it
past_stays : (n : ℕ) (text : List ℕ) → 4294967295 < n → of_32_bits (hex_after n text) ≡ None
past_stays n [] past = past_alone n past
past_stays n (byte ∷ text) past =
    elim (cases_Option (hex_value byte)) [
      | inl none ↦ rw none refl
      | inr some ↦ rw some.1 (past_stays (16 * n + some.0) text (omega (arith, past)))
    ]

-- a digit more, and the digits after it
digit_more : (n byte : ℕ) (text : List ℕ)
    → of_32_bits (hex_after n (byte ∷ text))
    ≡ option_and_then (λ more. of_32_bits (hex_after more text)) (with_digit n byte)
digit_more n byte text =
    elim (cases_Option (hex_value byte)) [
      | inl none ↦ rw none refl
      | inr some ↦ rw some.1 (elim (cases_Bool (nat_le (16 * n + some.0) 4294967295)) [
        | inl fits ↦ rw fits refl
        | inr past ↦ rw past (past_stays (16 * n + some.0) text (grind (arith, past)))
      ])
    ]

-- a byte that isn't a digit, or one after which the number has more than 32 bits
pub no_digit : (text : List ℕ) (n i : ℕ) → i < length text → with_digit n (get_or text i 0) ≡ None
    → of_32_bits (hex_after n (drop i text)) ≡ None
no_digit text n i within none =
    ap (λ (left : List ℕ). of_32_bits (hex_after n left)) (drop_more text i 0 within)
    ∙ digit_more n (get_or text i 0) (drop (i + 1) text)
    ∙ ap (option_and_then (λ (more : ℕ). of_32_bits (hex_after more (drop (i + 1) text)))) none
