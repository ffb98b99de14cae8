-- Numbers as digits: decimal and octal, without a sign, leading zeros allowed (choice).
use Rattle.std.specs.Prelude.{ℕ, ◌+◌, ◌-◌, ◌*◌, ◌&&◌, ◌==◌, Bool, not, nat_le, nat_lt, length, List, fold, Result, Ok, Err, if◌then◌else◌}
use Rattle.std.specs.List.{list_all}
use Rattle.cm_base.specs.Limits.{greatest_number}
use Rattle.cm_base.specs.declared.number.BadNumber.{BadNumber}
use Rattle.cm_base.specs.declared.number.BadNumber.TheVariants.{NotNumber, TooLarge}

-- the byte is a digit of the base, of at most ten digits
abbrev pub is_digit : ℕ → ℕ → Bool
is_digit base byte = nat_le 48 byte && nat_lt byte (48 + base)

-- the number that the digits stand for, however many they are: each digit adds itself to the base times what stands
-- before it
abbrev pub value_of : ℕ → List ℕ → ℕ
value_of base text = fold (λ before byte. base * before + (byte - 48)) 0 text

-- the text is at least one digit, and digits alone
abbrev pub is_number : ℕ → List ℕ → Bool
is_number base text = not (length text == 0) && list_all (is_digit base) text

-- the number that a text spells, at most the greatest one of 32 bits
abbrev pub number_in : ℕ → List ℕ → Result ℕ BadNumber
number_in base text =
    if is_number base text
    then (if nat_le (value_of base text) greatest_number then Ok (value_of base text) else Err TooLarge)
    else Err NotNumber

-- the decimal number
abbrev pub read_decimal : List ℕ → Result ℕ BadNumber
read_decimal text = number_in 10 text

-- the octal number
abbrev pub read_octal_of : List ℕ → Result ℕ BadNumber
read_octal_of text = number_in 8 text
