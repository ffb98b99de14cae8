-- Digits, decimal and hexadecimal, are ASCII, and so UTF-8.
use Rattle.std.proofs.Common.{◌≡◌, ℕ, zero, suc, ◌/◌, ◌%◌, ◌^◌, ◌<◌, nat_lt, List, [], ◌∷◌, ◌++◌, decimal, true, IsUtf8}
use Rattle.std.proofs.Common.{refl, arith}
use Rattle.std.proofs.lemmas.Bool.{and_from, and_parts, lt-ltb}
use Rattle.std.proofs.lemmas.Bool.Decides.{nat_tests}
use Rattle.std.proofs.lemmas.Fmt.{decimal_is_IsNumeral}
use Rattle.std.specs.Char.{digit_value}
use Rattle.std.specs.Str.Parse.{AllDigits}
use Rattle.json.proofs.Printed.Utf8.{are_ascii, IsUtf8-are_ascii}
use Rattle.model_text.specs.Hex.{hex, hex_digit, hex_set}

digits_ascii : (ds : List ℕ) → AllDigits 10 ds → are_ascii ds ≡ true
digits_ascii [] h = refl
digits_ascii (d ∷ ds) h =
    let digit : digit_value d < 10 = h.0 in
    let small : d < 128 = grind arith in
    and_from (nat_lt d 128) (are_ascii ds) (lt-ltb d 128 small) (digits_ascii ds h.1)

pub decimal_ascii : (n : ℕ) → n < 2 ^ 64 → are_ascii (decimal n) ≡ true
decimal_ascii n small = digits_ascii (decimal n) (decimal_is_IsNumeral n small).0.1

ascii_append : (xs ys : List ℕ) → are_ascii xs ≡ true → are_ascii ys ≡ true → are_ascii (xs ++ ys) ≡ true
ascii_append [] ys a b = b
ascii_append (x ∷ xs) ys a b =
    let p = and_parts (nat_lt x 128) (are_ascii xs) a in
    and_from (nat_lt x 128) (are_ascii (xs ++ ys)) p.0 (ascii_append xs ys p.1 b)

digit_small : (d : ℕ) → d < 16 → hex_digit d < 128
digit_small d small = grind (arith, nat_tests)

hex_ascii : (count n : ℕ) → are_ascii (hex count n) ≡ true
hex_ascii zero n = refl
hex_ascii (suc count) n =
    let last = lt-ltb (hex_digit (n % 16)) 128 (digit_small (n % 16) (omega arith)) in
    ascii_append (hex count (n / 16)) (hex_digit (n % 16) ∷ []) (hex_ascii count (n / 16))
    (and_from (nat_lt (hex_digit (n % 16)) 128) true last refl)

pub set_ascii : (set : ℕ) → are_ascii (hex_set set) ≡ true
unfolding hex_set
set_ascii set = hex_ascii 16 set

pub set_utf8 : (set : ℕ) → IsUtf8 (hex_set set)
set_utf8 set = IsUtf8-are_ascii (hex_set set) (set_ascii set)
