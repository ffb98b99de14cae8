-- Decimal numbers and their lengths: the next number, and ids.
use Rattle.std.proofs.Common.{◌≡◌, ℕ, ◌+◌, ◌-◌, ◌/◌, ◌%◌, ◌^◌, ◌<◌, ◌≤◌, List, [], ◌∷◌, ◌++◌, inl, inr, codes, decimal, length, set}
use Rattle.std.proofs.Common.{sym, ap, ◌∙◌, arith, append_assoc, length-append}
use Rattle.std.proofs.lemmas.Bool.{cases_lt}
use Rattle.std.proofs.lemmas.List.{set_at}
use Rattle.std.proofs.lemmas.Fmt.{decimal_digit, decimal_step, length-decimal-le}

-- the last digit before a colon and a space, made another
last_digit : (front : List ℕ) (x y : ℕ) → set (front ++ x ∷ [] ++ codes ": ") (length (front ++ x ∷ [] ++ codes ": ") - 3) y
    ≡ front ++ y ∷ [] ++ codes ": "
last_digit front x y =
    let at : length front ≡ length (front ++ x ∷ [] ++ codes ": ") - 3 =
    simp length-append (omega arith) in
    ap (λ t. set t (length (front ++ x ∷ [] ++ codes ": ") - 3) y) (append_assoc front (x ∷ []) (codes ": "))
    ∙ set_at front x (codes ": ") y (length (front ++ x ∷ [] ++ codes ": ") - 3) at
    ∙ sym (append_assoc front (y ∷ []) (codes ": "))

-- The next number differs in the last digit alone, where that isn't 0.
pub next_decimal : (n : ℕ) → n < 2 ^ 64 → 0 < n % 10
    → set (decimal (n - 1) ++ codes ": ") (length (decimal (n - 1) ++ codes ": ") - 3) (48 + n % 10) ≡ decimal n ++ codes ": "
next_decimal n small digit = elim (cases_lt n 10) [
  | inl one ↦
      let before : decimal (n - 1) ≡ (48 + (n - 1)) ∷ [] = decimal_digit (n - 1) (omega arith) in
      let here : decimal n ≡ (48 + n) ∷ [] = decimal_digit n one in
      let same : n % 10 ≡ n = omega arith in
      rw (before, here, same) (last_digit [] (48 + (n - 1)) (48 + n))
  | inr more ↦
      let before : decimal (n - 1) ≡ decimal ((n - 1) / 10) ++ (48 + (n - 1) % 10) ∷ [] = decimal_step (n - 1) (omega arith) (omega arith) in
      let here : decimal n ≡ decimal (n / 10) ++ (48 + n % 10) ∷ [] = decimal_step n more small in
      let same : (n - 1) / 10 ≡ n / 10 = omega arith in
      rw (before, here, same) (last_digit (decimal (n / 10)) (48 + (n - 1) % 10) (48 + n % 10))
]

-- a number of a line, with a colon and a space
pub number_length : (n : ℕ) → n < 2 ^ 64 → length (decimal n ++ codes ": ") ≤ 48
number_length n small =
    let digits : length (decimal n) ≤ 20 = length-decimal-le 20 n (omega arith) (omega arith) small in
    simp length-append (omega arith)

-- an id
pub id_length : (n : ℕ) → n < 2 ^ 32 → length (decimal n) ≤ 10
id_length n small = length-decimal-le 10 n (omega arith) (omega arith) (omega arith)
