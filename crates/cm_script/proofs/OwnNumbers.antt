-- Numbers that are read digit by digit, as they are written.
use Rattle.std.proofs.Common.{◌≡◌, ℕ, ◌+◌, ◌*◌, ◌/◌, ◌%◌, ◌<◌, ◌≤◌, List, [], ◌∷◌, ◌++◌, refl, sym, ap, ◌∙◌, arith, append_assoc}
use Rattle.std.proofs.lemmas.Fmt.{decimal_digit, decimal_step}
use Rattle.std.specs.Prelude.{decimal}
use Rattle.cm_base.specs.Limits.{greatest_number}

-- one digit
pub one_digit : (n d : ℕ) (text rest : List ℕ) → n ≡ d → d < 10 → text ≡ (48 + d) ∷ rest → text ≡ decimal n ++ rest
one_digit n d text rest same low is = rw (same) (is ∙ ap (λ (digits : List ℕ). digits ++ rest) (sym (decimal_digit d low)))

-- a digit more
digit_more : (n d : ℕ) → 0 < n → 10 * n + d ≤ greatest_number → d < 10 → decimal (10 * n + d) ≡ decimal n ++ ((48 + d) ∷ [])
digit_more n d some fits low =
    let front : (10 * n + d) / 10 ≡ n = omega arith in
    let last : (10 * n + d) % 10 ≡ d = omega arith in
    decimal_step (10 * n + d) (omega arith) (omega arith) ∙ rw (front, last) refl

-- the digit after those of a number
pub digit_read : (n v d : ℕ) (text before rest : List ℕ) → 0 < n → 10 * n + v ≤ greatest_number → v ≡ d → d < 10 → text ≡ decimal n ++ before
    → before ≡ (48 + d) ∷ rest → text ≡ decimal (10 * n + v) ++ rest
digit_read n v d text before rest some fits same low is next =
    let small : v < 10 = omega arith in
    let first : before ≡ (48 + v) ∷ rest = rw same next in
    rw (digit_more n v some fits small, append_assoc) (is ∙ ap (λ (r : List ℕ). decimal n ++ r) first)
