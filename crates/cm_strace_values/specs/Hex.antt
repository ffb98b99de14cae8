-- Numbers of at most 32 bits.
use Rattle.std.specs.Prelude.{ℕ, ◌+◌, ◌*◌, nat_le, Option, Some, None, option_map, option_and_then, if◌then◌else◌}
use Rattle.cm_base.specs.Limits.{greatest_number}
use Rattle.model_text.specs.CapText.{hex_value}

-- the number, where it has at most 32 bits
abbrev pub of_32_bits : Option ℕ → Option ℕ
of_32_bits number = option_and_then (λ n. if nat_le n greatest_number then Some n else None) number

-- the number with a hexadecimal digit more, where the byte is one and the number has at most 32 bits then
abbrev pub with_digit : ℕ → ℕ → Option ℕ
with_digit number byte = of_32_bits (option_map (λ digit. 16 * number + digit) (hex_value byte))
