-- Numbers in hexadecimal digits, in lower case (choice).
use Rattle.std.specs.Prelude.{ℕ, ◌+◌, ◌/◌, ◌%◌, nat_lt, List, [], ◌∷◌, ◌++◌, zero, suc, if◌then◌else◌}

-- a hexadecimal digit in lower case
abbrev pub hex_digit : ℕ → ℕ
hex_digit d = if nat_lt d 10 then 48 + d else 87 + d

-- the number in so many hexadecimal digits
abbrev pub hex : ℕ → ℕ → List ℕ
hex zero n = []
hex (suc digits) n = hex digits (n / 16) ++ hex_digit (n % 16) ∷ []

-- 16 digits of a set
unfoldable pub hex_set : ℕ → List ℕ
hex_set n = hex 16 n

-- two digits of the securebits
unfoldable pub hex_bits : ℕ → List ℕ
hex_bits n = hex 2 n
