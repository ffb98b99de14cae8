-- Sets of capabilities as they are written: 16 hexadecimal digits, which are read as the set.
use Rattle.std.proofs.Common.{◌≡◌, ℕ, zero, suc, ◌+◌, ◌-◌, ◌*◌, ◌/◌, ◌%◌, ◌<◌, ◌≤◌, ◌^◌, true, false}
use Rattle.std.proofs.Common.{List, [], ◌∷◌, ◌++◌, length, refl, sym, ap, ◌∙◌, arith, inl, inr, add-one}
use Rattle.std.proofs.Common.{Option, Some, None, length-append}
use Rattle.std.proofs.lemmas.Bool.{and_from, le-leb, lt-leb, lt-ltb, le-ltb, cases_lt, eqb-true}
use Rattle.std.proofs.lemmas.Grind.{pow_more}
use Rattle.std.specs.Prelude.{codes, bytes_eq, option_and_then, bit_and}
use Rattle.std.specs.List.{list_all}
use Rattle.cm_base.proofs.CapSets.{within_full}
use Rattle.cm_base.specs.CapSet.{full, meet, IsCapSet}
use Rattle.model_text.proofs.Found.{all_append, length_other}
use Rattle.model_text.proofs.Tokens.{IsToken, is_plain, plain_above}
use Rattle.model_text.specs.CapText.{hex_value, hex_after, set_of_text}
use Rattle.model_text.specs.Hex.{hex_digit, hex, hex_set}

-- ---- one digit
low_digit : (d : ℕ) → d < 10 → hex_digit d ≡ 48 + d
low_digit d low = rw (lt-ltb d 10 low) refl

high_digit : (d : ℕ) → 10 ≤ d → hex_digit d ≡ 87 + d
high_digit d high = rw (le-ltb d 10 high) refl

low_value : (d : ℕ) → d < 10 → hex_value (48 + d) ≡ Some d
low_value d low =
    let back : 48 + d - 48 ≡ d = omega arith in
    rw (le-leb 48 (48 + d) (omega arith), le-leb (48 + d) 57 (omega arith)) (ap Some back)

high_value : (d : ℕ) → 10 ≤ d → d < 16 → hex_value (87 + d) ≡ Some d
high_value d high low =
    let back : 87 + d - 87 ≡ d = omega arith in
    rw (le-leb 48 (87 + d) (omega arith), lt-leb (87 + d) 57 (omega arith), le-leb 97 (87 + d) (omega arith), le-leb (87 + d) 102 (omega arith)) (ap Some back)

digit_value : (d : ℕ) → d < 16 → hex_value (hex_digit d) ≡ Some d
digit_value d low =
    elim (cases_lt d 10) [
      | inl small ↦ ap hex_value (low_digit d small) ∙ low_value d small
      | inr large ↦ ap hex_value (high_digit d large) ∙ high_value d large low
    ]

digit_plain : (d : ℕ) → d < 16 → is_plain (hex_digit d) ≡ true
digit_plain d low =
    elim (cases_lt d 10) [
      | inl small ↦ ap is_plain (low_digit d small) ∙ plain_above (48 + d) (omega arith)
      | inr large ↦ ap is_plain (high_digit d large) ∙ plain_above (87 + d) (omega arith)
    ]

-- ---- several digits
pub hex_length : (k n : ℕ) → length (hex k n) ≡ k
hex_length zero n = refl
hex_length (suc k) n = length-append (hex k (n / 16)) (hex_digit (n % 16) ∷ []) ∙ omega (arith, hex_length k (n / 16))

hex_plain : (k n : ℕ) → list_all is_plain (hex k n) ≡ true
hex_plain zero n = refl
hex_plain (suc k) n =
    all_append is_plain (hex k (n / 16)) (hex_digit (n % 16) ∷ []) (hex_plain k (n / 16))
    (and_from (is_plain (hex_digit (n % 16))) true (digit_plain (n % 16) (omega arith)) refl)

-- what follows the digits, once one more of them has its value
after_digit : (before : ℕ) (xs ys : List ℕ) → ((v : ℕ) → hex_after v (xs ++ ys) ≡ option_and_then (λ u. hex_after u ys) (hex_after v xs)) → (digit : Option ℕ)
    → option_and_then (λ d. hex_after (16 * before + d) (xs ++ ys)) digit
    ≡ option_and_then (λ u. hex_after u ys) (option_and_then (λ d. hex_after (16 * before + d) xs) digit)
after_digit before xs ys rest None = refl
after_digit before xs ys rest (Some d) = rest (16 * before + d)

after_append : (before : ℕ) (xs ys : List ℕ) → hex_after before (xs ++ ys) ≡ option_and_then (λ u. hex_after u ys) (hex_after before xs)
after_append before [] ys = refl
after_append before (x ∷ xs) ys = after_digit before xs ys (λ v. after_append v xs ys) (hex_value x)

-- the digits of a number spell it
hex_read : (k n : ℕ) → n < 16 ^ k → hex_after 0 (hex k n) ≡ Some n
hex_read zero n low = let none : 0 ≡ n = omega arith in ap Some none
hex_read (suc k) n low =
    let power : 16 ^ suc k ≡ 16 ^ k * 16 = ap (λ (e : ℕ). 16 ^ e) (sym (add-one k)) ∙ pow_more 16 k in
    let front : n / 16 < 16 ^ k = omega arith in
    let whole : 16 * (n / 16) + n % 16 ≡ n = omega arith in
    after_append 0 (hex k (n / 16)) (hex_digit (n % 16) ∷ [])
    ∙ ap (option_and_then (λ u. hex_after u (hex_digit (n % 16) ∷ []))) (hex_read k (n / 16) front)
    ∙ ap (option_and_then (λ d. Some (16 * (n / 16) + d))) (digit_value (n % 16) (omega arith))
    ∙ ap Some whole

-- ---- sets
set_of_digits : (n : ℕ) (text : List ℕ) → IsCapSet n → length text ≡ 16 → hex_after 0 text ≡ Some n → set_of_text text ≡ Some n
set_of_digits n text small long reads =
    let all : bytes_eq text (codes "all") ≡ false = length_other text (codes "all") (λ same. omega (arith, same)) in
    let none : bytes_eq text (codes "none") ≡ false = length_other text (codes "none") (λ same. omega (arith, same)) in
    let within : meet n full ≡ n = eqb-true (bit_and n full) n (within_full n small) in
    rw (all, none, long, reads, within) refl

pub set_is_token : (n : ℕ) → IsToken (hex_set n)
unfolding hex_set
set_is_token n = record { some = omega (arith, hex_length 16 n); short = omega (arith, hex_length 16 n); plain = hex_plain 16 n }

pub set_back : (n : ℕ) → IsCapSet n → set_of_text (hex_set n) ≡ Some n
unfolding hex_set
set_back n small = set_of_digits n (hex 16 n) small (hex_length 16 n) (hex_read 16 n (omega arith))

pub set_length : (n : ℕ) → length (hex_set n) ≡ 16
unfolding hex_set
set_length n = hex_length 16 n
