-- The texts of sets of capabilities: digits one by one.
use Rattle.std.proofs.Common.{◌+◌, ◌*◌, ◌^◌, ◌<◌, ◌≤◌, ℕ, arith}
use Rattle.std.proofs.lemmas.Grind.{pow_more}
use Rattle.std.proofs.Math.Nat.{pow-le-pow_right}

-- so many digits after a number that so many have spelled stay below 16 to their count, and within 64 bits
pub hex_below : (number digit i : ℕ) → number < 16 ^ i → digit < 16 → 16 * number + digit < 16 ^ (i + 1)
hex_below number digit i below small = rw (pow_more 16 i) (omega arith)

pub hex-fits : (number digit i : ℕ) → number < 16 ^ i → digit < 16 → i < 16 → 16 * number + digit < 18446744073709551616
hex-fits number digit i below small few =
    let most : 16 ^ (i + 1) ≤ 16 ^ 16 = pow-le-pow_right {n = 16} (omega arith) {i = i + 1} {j = 16} (omega arith) in
    omega (arith, hex_below number digit i below small, most)
