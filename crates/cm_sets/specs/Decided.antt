-- That a number is held or isn't: a test tells it.
use Rattle.std.specs.Prelude.{◌≡◌, ◌⊎◌, ℕ, zero, suc, Bool, true, false, IsTrue, refl}
use Rattle.std.proofs.Common.{inl, inr}

-- a test passes or it doesn't
pub test_decides : (b : Bool) → IsTrue b ⊎ (¬ IsTrue b)
test_decides true = inl refl
test_decides false = inr (λ is. cc)

-- the unit is held, where the flag is the raised one, or it isn't
pub flag_decides : (flag raised : Bool) (n : ℕ) → ((n ≡ 0) × (flag ≡ raised)) ⊎ (¬ ((n ≡ 0) × (flag ≡ raised)))
flag_decides true true zero = inl (refl, refl)
flag_decides false false zero = inl (refl, refl)
flag_decides true false zero = inr (λ held. cc)
flag_decides false true zero = inr (λ held. cc)
flag_decides flag raised (suc n) = inr (λ held. cc)
