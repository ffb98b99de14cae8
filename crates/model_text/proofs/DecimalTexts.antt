-- Decimal numbers as they are written: they are tokens of digits, which are read as the number.
use Rattle.std.proofs.Common.{◌≡◌, ℕ, ◌+◌, ◌-◌, ◌*◌, ◌/◌, ◌%◌, ◌<◌, ◌≤◌, true, false, List, [], ◌∷◌, ◌++◌, length, refl, ap, ◌∙◌, arith, inl, inr}
use Rattle.std.proofs.Common.{Some, length-append, lit<, nat_le, nat_lt, eqb}
use Rattle.std.proofs.lemmas.Bool.{and_parts, and_from, le-leb, lt-ltb, leb-true, ne_eqb, cases_eq}
use Rattle.std.proofs.lemmas.Fmt.{decimal_by_steps, length-decimal-le}
use Rattle.std.proofs.lemmas.Grind.{fold-append}
use Rattle.std.specs.Prelude.{decimal, codes, bytes_eq, Ok}
use Rattle.std.specs.List.{list_all}
use Rattle.std.specs.Result.{result_ok}
use Rattle.cm_base.specs.Limits.{greatest_number, minus_one}
use Rattle.cm_base.specs.Number.{is_digit, value_of, read_decimal}
use Rattle.model_text.proofs.Found.{all_append}
use Rattle.model_text.proofs.Tokens.{IsToken, is_plain, plain_above}
use Rattle.model_text.specs.Token.{number_token, id_token, id_text}

-- The digits of a number: some, digits alone, and of that value.
pub record AreDigitsOf (n : ℕ) (digits : List ℕ) : Type 0 where
  pub some : 0 < length digits
  pub each : list_all (is_digit 10) digits ≡ true
  pub value : value_of 10 digits ≡ n

-- a digit of a number below ten
digit_is : (d : ℕ) → d < 10 → is_digit 10 (48 + d) ≡ true
digit_is d low = and_from (nat_le 48 (48 + d)) (nat_lt (48 + d) 58) (le-leb 48 (48 + d) (omega arith)) (lt-ltb (48 + d) 58 (omega arith))

one_digit : (n : ℕ) → n < 10 → AreDigitsOf n ((48 + n) ∷ [])
one_digit n low = record {
  some = lit< tt;
  each = and_from (is_digit 10 (48 + n)) true (digit_is n low) refl;
  value = omega arith;
}

more_digits : (n : ℕ) (digits : List ℕ) → 10 ≤ n → AreDigitsOf (n / 10) digits → AreDigitsOf n (digits ++ ((48 + n % 10) ∷ []))
more_digits n digits large front = record {
  some = omega (arith, length-append digits ((48 + n % 10) ∷ []), front.some);
  each = all_append (is_digit 10) digits ((48 + n % 10) ∷ []) front.each (and_from (is_digit 10 (48 + n % 10)) true (digit_is (n % 10) (omega arith)) refl);
  value =
      fold-append (λ before byte. 10 * before + (byte - 48)) 0 digits ((48 + n % 10) ∷ [])
      ∙ ap (λ (v : ℕ). 10 * v + (48 + n % 10 - 48)) front.value
      ∙ omega arith;
}

-- the digits that are written
pub digits_of_decimal : (n : ℕ) → n ≤ greatest_number → AreDigitsOf n (decimal n)
digits_of_decimal n fits = decimal_by_steps (λ n digits. AreDigitsOf n digits) one_digit more_digits n (omega arith)

-- ---- tokens
-- a digit is no blank
plain_digit : (byte : ℕ) → is_digit 10 byte ≡ true → is_plain byte ≡ true
plain_digit byte is =
    let parts : (nat_le 48 byte ≡ true) × (nat_lt byte 58 ≡ true) = and_parts (nat_le 48 byte) (nat_lt byte 58) is in
    let low : 48 ≤ byte = leb-true 48 byte parts.0 in plain_above byte (omega arith)

plain_digits : (digits : List ℕ) → list_all (is_digit 10) digits ≡ true → list_all is_plain digits ≡ true
plain_digits [] all = refl
plain_digits (d ∷ ds) all =
    let parts : (is_digit 10 d ≡ true) × (list_all (is_digit 10) ds ≡ true) = and_parts (is_digit 10 d) (list_all (is_digit 10) ds) all in
    and_from (is_plain d) (list_all is_plain ds) (plain_digit d parts.0) (plain_digits ds parts.1)

-- a number has ten digits at most
pub decimal_short : (n : ℕ) → n ≤ greatest_number → length (decimal n) ≤ 10
decimal_short n fits = length-decimal-le 10 n (omega arith) (omega arith) (omega arith)

pub decimal_token : (n : ℕ) → n ≤ greatest_number → IsToken (decimal n)
decimal_token n fits =
    let digits : AreDigitsOf n (decimal n) = digits_of_decimal n fits in
    let size : length (decimal n) ≤ 10 = decimal_short n fits in
    record { some = digits.some; short = omega arith; plain = plain_digits (decimal n) digits.each }

-- ---- what it is read as
-- no text that begins with another byte than a digit is the number's
other_first : (byte : ℕ) (rest digits : List ℕ) → is_digit 10 byte ≡ false → list_all (is_digit 10) digits ≡ true → bytes_eq digits (byte ∷ rest) ≡ false
other_first byte rest [] other all = refl
other_first byte rest (d ∷ ds) other all =
    let here : is_digit 10 d ≡ true = (and_parts (is_digit 10 d) (list_all (is_digit 10) ds) all).0 in
    let differ : d ≡ byte → ⊥ = λ same. cc in
    rw (ne_eqb d byte differ) refl

pub decimal_is_not : (n byte : ℕ) (rest : List ℕ) → n ≤ greatest_number → is_digit 10 byte ≡ false → bytes_eq (decimal n) (byte ∷ rest) ≡ false
decimal_is_not n byte rest fits other = other_first byte rest (decimal n) other (digits_of_decimal n fits).each

number_of_digits : (n : ℕ) (digits : List ℕ) → n ≤ greatest_number → AreDigitsOf n digits → read_decimal digits ≡ Ok n
number_of_digits n digits fits are =
    let some : eqb (length digits) 0 ≡ false = ne_eqb (length digits) 0 (λ none. omega (arith, are.some)) in
    rw (some, are.each, are.value, le-leb n greatest_number fits) refl

pub decimal_read : (n : ℕ) → n ≤ greatest_number → read_decimal (decimal n) ≡ Ok n
decimal_read n fits = number_of_digits n (decimal n) fits (digits_of_decimal n fits)

pub number_back : (n : ℕ) → n ≤ greatest_number → number_token (decimal n) ≡ Some n
number_back n fits = ap result_ok (decimal_read n fits)

-- ---- ids
pub id_is_token : (n : ℕ) → n ≤ greatest_number → IsToken (id_text n)
id_is_token n fits =
    elim (cases_eq n minus_one) [
      | inl same ↦ rw (same) (record { some = lit< tt; short = lit< tt; plain = refl })
      | inr other ↦ rw (ne_eqb n minus_one other) (decimal_token n fits)
    ]

pub id_back : (n : ℕ) → n ≤ greatest_number → id_token (id_text n) ≡ Some n
id_back n fits =
    elim (cases_eq n minus_one) [
      | inl same ↦ rw same refl
      | inr other ↦ rw (ne_eqb n minus_one other, decimal_is_not n 45 (codes "1") fits refl) (number_back n fits)
    ]
