-- What the code's operations on the bits of a filter stand on.
use Rattle.std.proofs.Common.{ℕ, ◌<◌, ◌*◌, ◌%◌, ◌^◌, arith}
use Rattle.std.specs.Prelude.{bit_and, bit_or, bit_xor}
use Rattle.std.proofs.lemmas.Nat.{or_lt, xor_lt, and_le_l, one_shl, pow_below}
use Rattle.std.proofs.lemmas.Nat.Bits.{shr_and_one}
use Rattle.cm_filter.specs.Kinds.{kind_count}

-- a filter and one bit more is a filter
pub excluding_is_filter : (f k : ℕ) → f < 2 ^ kind_count → k < kind_count → bit_or f ((1 * 2 ^ k) % 2 ^ 32) < 2 ^ kind_count
excluding_is_filter f k small low = let below : k < 32 = omega arith in rw one_shl (or_lt kind_count f (2 ^ k) small (pow_below k kind_count low))

-- and so is what either of two excludes
pub either_is_filter : (f g : ℕ) → f < 2 ^ kind_count → g < 2 ^ kind_count → bit_or f g < 2 ^ kind_count
either_is_filter f g = or_lt kind_count f g

-- what both exclude
pub both_is_filter : (f g : ℕ) → f < 2 ^ kind_count → bit_and f g < 2 ^ kind_count
both_is_filter f g small = omega (arith, and_le_l f g)

-- and a filter without some of its bits
pub permitting_is_filter : (f g : ℕ) → f < 2 ^ kind_count → bit_xor f (bit_and f g) < 2 ^ kind_count
permitting_is_filter f g small = xor_lt kind_count f (bit_and f g) small (both_is_filter f g small)

pub ruleset filter_bits = (excluding_is_filter, either_is_filter, both_is_filter, permitting_is_filter, one_shl, shr_and_one)
