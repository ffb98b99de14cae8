-- The set of one capability.
use Rattle.std.proofs.Common.{◌≡◌, ℕ, ◌^◌, ◌∙◌, zero-add, arith}
use Rattle.std.specs.Prelude.{bit_and}
use Rattle.std.proofs.lemmas.Nat.{and_le_l, or_disjoint}
use Rattle.cm_base.specs.CapSet.{none, single, with}

-- the set of none and one more
pub union_none : (cap : ℕ) → with none cap ≡ single cap
union_none cap =
    let apart : bit_and 0 (2 ^ cap) ≡ 0 = omega (arith, and_le_l 0 (2 ^ cap)) in
    or_disjoint 0 (2 ^ cap) apart ∙ zero-add (2 ^ cap)
