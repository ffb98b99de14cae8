-- A set of capabilities as a word.
use Rattle.std.proofs.Common.{◌≡◌, ℕ, zero, suc, ◌^◌, ◌<◌, arith, lit<}
use Rattle.std.proofs.Math.Nat.{two-pow-succ}
use Rattle.std.proofs.lemmas.Bool.{eqb-true}
use Rattle.cm_base.proofs.CapSets.{within_full}
use Rattle.cm_base.specs.CapSet.{full, meet, IsCapSet}

-- a number is below its power of two, so a word holds no number from itself on
pub below_power : (n : ℕ) → n < 2 ^ n
below_power zero = lit< tt
below_power (suc n) = omega (arith, two-pow-succ n, below_power n)

-- a set has none but capabilities
pub meet_full : (a : ℕ) → IsCapSet a → meet a full ≡ a
meet_full a small = eqb-true (meet a full) a (within_full a small)
